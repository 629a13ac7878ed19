use Rattle.std.proofs.Common.{◌≡◌, ◌≤◌, take, length, None, ◌-◌}
use Rattle.pdb_types.specs.Ascending.{first_numbered}
use Rattle.pdb_types.specs.CachedEntries.{Knows}
use Rattle.pdb_types.proofs.cached_entries.read_on.Given as goal

-- what was read so far is known, and the number isn't in it
abbrev pub invariant-loop-scanned : goal.invariant-loop-scanned
invariant-loop-scanned g l = record {
  within : l.scanned ≤ length l.entries;
  knows : Knows g.T.Numbered.number_of (take l.scanned l.entries) l.known;
  absent : first_numbered g.T.Numbered.number_of l.number (take l.scanned l.entries) ≡ None;
}

-- the entries that are left
abbrev pub decreases-loop-scanned : goal.decreases-loop-scanned
decreases-loop-scanned g l = length l.entries - l.scanned
