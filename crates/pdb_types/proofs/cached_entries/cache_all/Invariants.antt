use Rattle.std.proofs.Common.{take}
use Rattle.pdb_types.specs.CachedEntries.{Knows}
use Rattle.pdb_types.proofs.cached_entries.cache_all.Given as goal

-- the entries so far are known
abbrev pub invariant-loop-entry : goal.invariant-loop-entry
invariant-loop-entry g l = Knows g.T.Numbered.number_of (take l.entry-index l.entries) l.known
