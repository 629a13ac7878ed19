use Rattle.pdb_frames.proofs.code_cache.CodeCache.blame_after_info.Given as goal

abbrev pub ghost-row : goal.ghost-row
ghost-row g a = g.records
