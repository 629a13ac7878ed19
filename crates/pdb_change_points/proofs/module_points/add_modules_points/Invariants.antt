use Rattle.std.proofs.Common.{◌++◌, drop}
use Rattle.std.specs.List.{flat_map}
use Rattle.pdb_change_points.specs.UniqueNumbers.{HaveSameMembers}
use Rattle.pdb_change_points.specs.ModulePoints.{answer_points}
use Rattle.pdb_change_points.proofs.module_points.add_modules_points.Given as goal

-- the points so far, with those of what is left, are all points
abbrev pub invariant-loop-answer : goal.invariant-loop-answer
invariant-loop-answer l =
    HaveSameMembers (l.points.items ++ flat_map (answer_points l.address_map) (drop l.answer-index l.answers))
    (l.initial.points.items ++ flat_map (answer_points l.address_map) l.answers)
