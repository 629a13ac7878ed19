use Rattle.std.proofs.Common.{◌≡◌, ◌++◌, drop, map}
use Rattle.pdb_functions.specs.Procedures.{module_procedure}
use Rattle.pdb_change_points.specs.ModulePoints.{inlined_points}
use Rattle.pdb_change_points.proofs.module_points.add_inlined_points.Given as goal

-- the points so far, with those of what is left, are all points
abbrev pub invariant-loop-procedure : goal.invariant-loop-procedure
invariant-loop-procedure l =
    l.points.items ++ inlined_points l.address_map l.inlinees.keys l.module_info
    (map module_procedure (drop l.procedure-index l.procedures))
    ≡ l.initial.points.items
    ++ inlined_points l.address_map l.inlinees.keys l.module_info (map module_procedure l.procedures)
