use Rattle.pdb_frames.proofs.code_cache.CodeCache.stack.Given as goal

abbrev pub ghost-stack : goal.ghost-stack
ghost-stack g a = g.records
