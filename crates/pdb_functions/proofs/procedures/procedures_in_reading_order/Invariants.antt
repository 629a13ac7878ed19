use Rattle.std.proofs.Common.{◌≡◌, ◌++◌, map, drop}
use Rattle.std.specs.Prelude.{None, option_map}
use Rattle.pdb_functions.specs.Procedures.{module_procedure, procedures_from}
use Rattle.pdb_functions.proofs.procedures.procedures_in_reading_order.Given as goal

-- the procedures so far, and those of what is left, are those of all
abbrev pub invariant-loop-at : goal.invariant-loop-at
invariant-loop-at l = map module_procedure l.procedures.items ++ procedures_from l.at
    (option_map module_procedure l.last) (drop l.at l.symbols) ≡ procedures_from 0 None l.symbols
