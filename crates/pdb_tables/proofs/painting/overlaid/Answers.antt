use Rattle.pdb_tables.specs.Painting.{overlaid}
use Rattle.pdb_tables.proofs.SegmentLemmas.{drop_is}
use Rattle.pdb_tables.proofs.PaintingLemmas.{overlaid_step, ordered_going_past}
use Rattle.pdb_tables.proofs.painting.overlaid.Goals as goal

pub loop-top-preserved : goal.loop-top-preserved
loop-top-preserved g c =
    let e = drop_is _ _ c.top-item.result c.top-item.is c.loop-top-test.true in
    let ordered = rw e at c.loop-top.invariant.tops in
    record {
      all = rw (c.in_ok-push.ensures.items, c.in_ok-rest.ensures.state, c.in_ok-rest.ensures.answer)
          (overlaid_step _ _ _ c.loop-top.rest.now
          (overlaid 0 c.args.tops.now c.args.under.now) c.top-item.result ordered (rw e at c.loop-top.invariant.all));
      tops = ordered.2;
      rest = rw c.in_ok-rest.ensures.answer
          (ordered_going_past 0 c.top-item.result.start c.loop-top.rest.now c.loop-top.invariant.rest);
    }
