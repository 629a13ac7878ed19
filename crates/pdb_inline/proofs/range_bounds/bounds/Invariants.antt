use Rattle.std.proofs.Common.{◌≡◌, ◌++◌, drop}
use Rattle.pdb_inline.specs.RangeBounds.{bounds}
use Rattle.pdb_inline.proofs.range_bounds.bounds.Given as goal

-- the bounds so far, and those of what is left, are those of all
abbrev pub invariant-loop-range : goal.invariant-loop-range
invariant-loop-range l = l.all.items ++ bounds (drop l.range-index l.ranges) ≡ bounds l.ranges
