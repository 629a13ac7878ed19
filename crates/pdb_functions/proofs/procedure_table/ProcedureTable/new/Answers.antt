use Rattle.pdb_functions.proofs.TableLemmas.{last_procedure}
use Rattle.pdb_functions.proofs.procedure_table.ProcedureTable.new.Goals as goal

pub invariant_of-result : goal.invariant_of-result
invariant_of-result c = record {
  picks = λ section_offset fits.
      rw (rw c.deref.ensures.value at (c.in_ok-segments.ensures.answer section_offset fits))
      (last_procedure section_offset c.args.procedures.items c.requires);
  ascend = c.requires;
  at_most_two_each = rw (← c.deref.ensures.value) c.in_ok-segments.ensures.bound;
}
