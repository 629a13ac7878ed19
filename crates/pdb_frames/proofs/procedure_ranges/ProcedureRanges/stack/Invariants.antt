use Rattle.pdb_frames.proofs.procedure_ranges.ProcedureRanges.stack.Given as goal

abbrev pub ghost-inline_ranges : goal.ghost-inline_ranges
ghost-inline_ranges g a = g.records
