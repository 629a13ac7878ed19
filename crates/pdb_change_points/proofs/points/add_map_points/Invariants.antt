use Rattle.std.proofs.Common.{◌≡◌, ◌++◌, drop}
use Rattle.pdb_change_points.specs.Points.{map_points}
use Rattle.pdb_change_points.proofs.points.add_map_points.Given as goal

-- the points so far, with those of what is left, are all points
abbrev pub invariant-loop-range : goal.invariant-loop-range
invariant-loop-range l =
    l.points.items ++ map_points (drop l.range-index l.address_map)
    ≡ l.initial.points.items ++ map_points l.address_map
