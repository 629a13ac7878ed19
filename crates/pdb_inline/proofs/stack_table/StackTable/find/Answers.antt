use Rattle.std.proofs.Common.{sym}
use Rattle.std.specs.Prelude.{Some, None}
use Rattle.pdb_inline.proofs.StackTableLemmas.{stack_found}
use Rattle.pdb_inline.proofs.stack_table.StackTable.find.Goals as goal

pub returns-in-Some-clause-answer : goal.returns-in-Some-clause-answer
returns-in-Some-clause-answer c =
    rw (c.deref.ensures.value, ← c.self.view_is)
    (stack_found c.self.inside.positions.items c.self.inside.segments c.args.offset
    (Some (c.in-Some.from, c.in-Some.to)) (sym c.in-Some.ensures.answer))

pub returns-in-None-clause-answer : goal.returns-in-None-clause-answer
returns-in-None-clause-answer c =
    rw (← c.self.view_is)
    (stack_found c.self.inside.positions.items c.self.inside.segments c.args.offset None (sym c.in-None.ensures.answer))
