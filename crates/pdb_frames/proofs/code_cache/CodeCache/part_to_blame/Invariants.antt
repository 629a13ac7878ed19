use Rattle.pdb_frames.proofs.code_cache.CodeCache.part_to_blame.Given as goal

abbrev pub ghost-line_program : goal.ghost-line_program
ghost-line_program g a = g.records

abbrev pub ghost-blame_after_info : goal.ghost-blame_after_info
ghost-blame_after_info g a = g.records
