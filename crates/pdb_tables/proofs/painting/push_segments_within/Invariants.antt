use Rattle.std.proofs.Common.{◌≡◌, ◌++◌, drop}
use Rattle.pdb_tables.specs.Segments.{IsOrderedFrom}
use Rattle.pdb_tables.specs.Painting.{segments_within, going_past}
use Rattle.pdb_tables.proofs.painting.push_segments_within.Given as goal

-- what was appended so far, and what the segments from here on have, is what all have; and all segments up to here
-- end by hi
abbrev pub invariant-loop-at : goal.invariant-loop-at
invariant-loop-at g l = record {
  appended : l.all.items ++ segments_within l.lo l.hi (drop l.at l.segments) ≡ l.initial.all.items
      ++ segments_within l.lo l.hi l.segments;
  past : going_past l.hi (drop l.at l.segments) ≡ going_past l.hi l.segments;
  ordered : IsOrderedFrom 0 (drop l.at l.segments);
}
