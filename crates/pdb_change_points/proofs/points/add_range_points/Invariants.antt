use Rattle.std.proofs.Common.{◌≡◌, ◌++◌, drop}
use Rattle.pdb_change_points.specs.Points.{range_points}
use Rattle.pdb_change_points.proofs.points.add_range_points.Given as goal

-- the points so far, with those of what is left, are all points
abbrev pub invariant-loop-range : goal.invariant-loop-range
invariant-loop-range l =
    l.points.items ++ range_points l.address_map l.section (drop l.range-index l.ranges)
    ≡ l.initial.points.items ++ range_points l.address_map l.section l.ranges
