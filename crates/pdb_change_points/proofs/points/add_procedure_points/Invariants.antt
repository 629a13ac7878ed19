use Rattle.std.proofs.Common.{◌≡◌, ◌++◌, drop, map}
use Rattle.pdb_functions.specs.Procedures.{module_procedure}
use Rattle.pdb_change_points.specs.Points.{procedure_points}
use Rattle.pdb_change_points.proofs.points.add_procedure_points.Given as goal

-- the points so far, with those of what is left, are all points
abbrev pub invariant-loop-procedure : goal.invariant-loop-procedure
invariant-loop-procedure l =
    l.points.items ++ procedure_points l.address_map (map module_procedure (drop l.procedure-index l.procedures))
    ≡ l.initial.points.items ++ procedure_points l.address_map (map module_procedure l.procedures)
