use Rattle.std.proofs.Common.{sym, arith}
use Rattle.std.proofs.lemmas.Grind.{common_steps}
use Rattle.pdb_types.proofs.AscendingLemmas.{first_other, first_here, first_take}
use Rattle.pdb_types.proofs.CachedLemmas.{knows_first, knows_none, knows_more, knows_same}
use Rattle.pdb_types.proofs.cached_entries.read_on.Goals as goal

pub returns-in-Some-clause-answer : goal.returns-in-Some-clause-answer
returns-in-Some-clause-answer g c = knows_first g.T.Numbered.number_of _ _ _ _ _ c.requires.knows c.in-Some.ensures

pub loop-scanned-init : goal.loop-scanned-init
loop-scanned-init g c = record {
  within = c.requires.within;
  knows = c.requires.knows;
  absent = knows_none g.T.Numbered.number_of _ _ _ c.requires.knows c.in_default.ensures;
}

pub returns-in_err-insert_first-clause-knows : goal.returns-in_err-insert_first-clause-knows
returns-in_err-insert_first-clause-knows g c =
    knows_same g.T.Numbered.number_of _ _ _ c.loop-scanned.invariant.knows
    c.in_err-insert_first.ensures.unchanged_if_refused

pub returns-then-number-clause-knows : goal.returns-then-number-clause-knows
returns-then-number-clause-knows g c =
    knows_more g.T.Numbered.number_of _ _ _ _ _ c.loop-scanned-test.true c.index-entries-scanned.is
    c.loop-scanned.invariant.knows c.in_ok-insert_first.ensures.state

pub returns-then-number-clause-answer : goal.returns-then-number-clause-answer
returns-then-number-clause-answer g c =
    let number_of = g.T.Numbered.number_of in
    let here =
    first_here number_of _ _ _ c.loop-scanned-test.true c.index-entries-scanned.is c.args.number
    c.loop-scanned.invariant.absent (grind (arith, common_steps, c.number.ensures)) in
    sym (first_take number_of _ _ _ _ here)

pub loop-scanned-preserved : goal.loop-scanned-preserved
loop-scanned-preserved g c =
    let number_of = g.T.Numbered.number_of in
    record {
      within = omega arith;
      knows =
          knows_more number_of _ _ _ _ _ c.loop-scanned-test.true c.index-entries-scanned.is
          c.loop-scanned.invariant.knows c.in_ok-insert_first.ensures.state;
      absent =
          first_other number_of _ _ _ c.loop-scanned-test.true c.index-entries-scanned.is c.args.number
          c.loop-scanned.invariant.absent (grind (arith, common_steps, c.number.ensures));
    }
