use Rattle.std.proofs.Common.{sym, arith}
use Rattle.std.proofs.lemmas.Grind.{common_steps}
use Rattle.pdb_types.proofs.AscendingLemmas.{got_there, first_here, first_other}
use Rattle.pdb_types.proofs.ascending.read_ascending.Goals as goal

pub returns-then-number-clause-answer : goal.returns-then-number-clause-answer
returns-then-number-clause-answer g c =
    let number_of = g.T.Numbered.number_of in
    let there = got_there number_of c.args.entries.now c.loop-entry.ascending c.in-Some.entry.now
    c.in-Some.ensures.entry in
    sym (first_here number_of _ _ _ there.0 there.1 c.args.number c.loop-entry.invariant.absent
    (grind (arith, common_steps, c.number.ensures)))

pub loop-entry-smaller : goal.loop-entry-smaller
loop-entry-smaller g c =
    let there = got_there g.T.Numbered.number_of c.args.entries.now c.loop-entry.ascending c.in-Some.entry.now
    c.in-Some.ensures.entry in
    omega (arith, there.0)

pub loop-entry-preserved : goal.loop-entry-preserved
loop-entry-preserved g c =
    let number_of = g.T.Numbered.number_of in
    let there = got_there number_of c.args.entries.now c.loop-entry.ascending c.in-Some.entry.now
    c.in-Some.ensures.entry in
    record {
      within = omega (arith, there.0);
      ascends = c.in-Some.ensures.ascends;
      absent = first_other number_of _ _ _ there.0 there.1 c.args.number c.loop-entry.invariant.absent
          (grind (arith, common_steps, c.number.ensures));
    }
