use Rattle.std.proofs.Common.{◌≡◌, ◌++◌, drop}
use Rattle.pdb_functions.specs.SectionTables.{section_segments}
use Rattle.pdb_functions.proofs.section_table.segments_of.Given as goal

-- the segments so far, and those of what is left, are those of all
abbrev pub invariant-loop-index : goal.invariant-loop-index
invariant-loop-index l =
    l.segments.items ++ section_segments l.index (drop l.index l.ranges) ≡ section_segments 0 l.ranges
