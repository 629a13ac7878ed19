use Rattle.std.proofs.Common.{arith, refl, ◌≡◌, ◌+◌, ◌-◌, ◌<◌, length}
use Rattle.std.proofs.Math.Seq.{drop-length}
use Rattle.pdb_types.proofs.ForwardLemmas.{drop-here, defines_nothing, defines_more, tabulates_nothing, tabulates_more}
use Rattle.pdb_types.proofs.forward_sizes.forward_sizes.Goals as goal

pub loop-left-init : goal.loop-left-init
loop-left-init c = rw drop-length (record {
  within = omega arith;
  defined = defines_nothing _ c.new-by_name.ensures.empty;
  tabulated = tabulates_nothing _ c.new-sizes.ensures.empty;
})

pub loop-left-preserved : goal.loop-left-preserved
loop-left-preserved c =
    let next : (c.loop-left.left - 1) + 1 ≡ c.loop-left.left = omega arith in
    let within : c.loop-left.left - 1 < length c.args.items.now = omega arith in
    let here = drop-here c.args.items.now
    (c.loop-left.left - 1) c.loop-left.left c.index-items-left.result next within c.index-items-left.is in
    record {
      within = omega arith;
      defined = rw here (defines_more _ _ _ _ _ c.item_aggregate-aggregate.ensures c.loop-left.invariant.defined
          c.in_ok-define.ensures);
      tabulated = rw here (tabulates_more _ _ _ _ _ _ _ _ refl c.item_aggregate-aggregate.ensures
          c.reference_size-size.ensures c.loop-left.invariant.defined c.loop-left.invariant.tabulated
          c.in_ok-put_size.ensures);
    }
