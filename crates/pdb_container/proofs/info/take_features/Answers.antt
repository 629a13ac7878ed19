-- One number more, and the one that ends the list.
use Rattle.std.proofs.Common.{◌≡◌, ◌∙◌, ◌-◌, ◌==◌, false, length, sym, ap, length-drop, arith}
use Rattle.std.proofs.lemmas.Grind.{common_steps}
use Rattle.pdb_container.proofs.FeatureLemmas.{ended, one_number_more}
use Rattle.pdb_container.proofs.info.take_features.Goals as goal

pub loop-preserved : goal.loop-preserved
loop-preserved c =
    let goes-on : (c.in-Ok.listed == 20091201) ≡ false = grind (arith, common_steps) in
    let there = c.in-Ok.ensures.there in
    let left : length c.u32.new.self ≡ length c.loop.bytes - 4
    = ap length c.in-Ok.ensures.state ∙ length-drop 4 c.loop.bytes in
    let taken = c.loop.invariant.taken in
    record {
      listed = one_number_more c.loop.bytes c.u32.new.self _ c.loop.features c.with_listed-features.result
          c.in-Ok.listed there c.in-Ok.ensures.state c.in-Ok.ensures.answer goes-on
          c.with_listed-features.ensures.ids c.with_listed-features.ensures.names_only c.loop.invariant.listed;
      taken = omega (arith, left, there, taken);
    }

pub returns-then-listed-eq-FIRST_WITH_IDS : goal.returns-then-listed-eq-FIRST_WITH_IDS
returns-then-listed-eq-FIRST_WITH_IDS c =
    ended c.loop.bytes _ c.loop.features c.in-Ok.ensures.there
    (sym c.in-Ok.ensures.answer ∙ c.if-listed-eq-FIRST_WITH_IDS.true) c.loop.invariant.listed
