use Rattle.std.proofs.Common.{length, arith}
use Rattle.pdb_inline.proofs.ProcedureStackLemmas.{digits_quadruple}
use Rattle.pdb_inline.proofs.StackTableLemmas.{few_segments}
use Rattle.pdb_inline.proofs.procedure_stacks.ProcedureStacks.search.Goals as goal

pub returns-in-Some-clause-bound : goal.returns-in-Some-clause-bound
returns-in-Some-clause-bound c =
    let is_table = rw c.in-Some.is at c.self.invariant.is_table in
    rw (← c.self.view_is) (omega (
      arith,
      few_segments _ _ is_table,
      digits_quadruple (length c.self.inside.ranges.items),
      c.find.ensures.bound,
    ))
