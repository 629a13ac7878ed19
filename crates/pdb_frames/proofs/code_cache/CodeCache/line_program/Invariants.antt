use Rattle.pdb_frames.proofs.code_cache.CodeCache.line_program.Given as goal

abbrev pub ghost-line_program : goal.ghost-line_program
ghost-line_program g a = g.records
