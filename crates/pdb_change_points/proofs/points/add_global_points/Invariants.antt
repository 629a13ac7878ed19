use Rattle.std.proofs.Common.{◌≡◌, ◌++◌, drop, map}
use Rattle.pdb_functions.specs.GlobalFunctions.{global_function}
use Rattle.pdb_change_points.specs.Points.{global_points}
use Rattle.pdb_change_points.proofs.points.add_global_points.Given as goal

-- the points so far, with those of what is left, are all points
abbrev pub invariant-loop-function : goal.invariant-loop-function
invariant-loop-function l =
    l.points.items ++ global_points l.address_map (map global_function (drop l.function-index l.functions))
    ≡ l.initial.points.items ++ global_points l.address_map (map global_function l.functions)
