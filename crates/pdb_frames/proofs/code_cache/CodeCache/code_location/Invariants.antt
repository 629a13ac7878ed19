use Rattle.pdb_frames.proofs.code_cache.CodeCache.code_location.Given as goal

abbrev pub ghost-line_program : goal.ghost-line_program
ghost-line_program g a = g.records

abbrev pub ghost-row : goal.ghost-row
ghost-row g a = g.records

abbrev pub ghost-stack : goal.ghost-stack
ghost-stack g a = g.records
