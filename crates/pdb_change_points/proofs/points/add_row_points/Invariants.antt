use Rattle.std.proofs.Common.{◌≡◌, ◌++◌, drop}
use Rattle.pdb_change_points.specs.Points.{row_points}
use Rattle.pdb_change_points.proofs.points.add_row_points.Given as goal

-- the points so far, with those of what is left, are all points
abbrev pub invariant-loop-row : goal.invariant-loop-row
invariant-loop-row l =
    l.points.items ++ row_points l.address_map l.section (drop l.row-index l.rows)
    ≡ l.initial.points.items ++ row_points l.address_map l.section l.rows
