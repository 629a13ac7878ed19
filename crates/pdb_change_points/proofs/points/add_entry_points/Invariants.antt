use Rattle.std.proofs.Common.{◌≡◌, ◌++◌, drop}
use Rattle.pdb_change_points.specs.Points.{entry_points}
use Rattle.pdb_change_points.proofs.points.add_entry_points.Given as goal

-- the points so far, with those of what is left, are all points
abbrev pub invariant-loop-entry : goal.invariant-loop-entry
invariant-loop-entry l =
    l.points.items ++ entry_points l.address_map (drop l.entry-index l.entries)
    ≡ l.initial.points.items ++ entry_points l.address_map l.entries
