use Rattle.std.proofs.Common.{◌≡◌, ◌<◌, ℕ, drop, length, None}
use Rattle.pdb_tables.specs.Segments.{painted_in_turn}
use Rattle.pdb_inline.specs.DepthTables.{segments_at}
use Rattle.pdb_inline.specs.ListedRanges.{last_position}
use Rattle.pdb_inline.proofs.depth_tables.segments_by_depth.Given as goal

-- what the segments so far give a number, or else the last of what is left over it, is the last of all
abbrev pub invariant-loop-listed : goal.invariant-loop-listed
invariant-loop-listed l = record {
  count : length l.all.items ≡ l.depths;
  last : (depth x : ℕ) → depth < l.depths
      → last_position depth x (painted_in_turn (segments_at l.all.items depth) None x) (drop l.listed-index l.ranges)
      ≡ last_position depth x None l.ranges;
}
