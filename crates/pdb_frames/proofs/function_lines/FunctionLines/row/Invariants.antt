use Rattle.pdb_frames.proofs.function_lines.FunctionLines.row.Given as goal

abbrev pub ghost-rows_at : goal.ghost-rows_at
ghost-rows_at g a = g.records
