use Rattle.std.proofs.Common.{◌≡◌, ◌++◌, drop, None}
use Rattle.pdb_tables.specs.Segments.{value_at}
use Rattle.pdb_repairs.specs.Intervals.{intervals_after}
use Rattle.pdb_repairs.proofs.intervals.intervals_at.Given as goal

-- the intervals so far, and those of what is left, are all intervals
abbrev pub invariant-loop-byte : goal.invariant-loop-byte
invariant-loop-byte l =
    l.intervals.items ++ intervals_after (value_at l.owners) l.last (drop l.byte-index l.bytes)
    ≡ intervals_after (value_at l.owners) None l.bytes
