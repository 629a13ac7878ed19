use Rattle.std.proofs.Common.{◌≡◌, ◌++◌, drop}
use Rattle.pdb_tables.specs.Painting.{segments_from}
use Rattle.pdb_tables.proofs.painting.push_segments_from.Given as goal

-- what was appended so far, and what the segments from here on have, is what all have
abbrev pub invariant-loop-segment : goal.invariant-loop-segment
invariant-loop-segment g l =
    l.all.items ++ segments_from l.lo (drop l.segment-index l.segments) ≡ l.initial.all.items
    ++ segments_from l.lo l.segments
