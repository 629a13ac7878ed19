use Rattle.std.proofs.Common.{◌≡◌, ◌++◌, drop, map, take}
use Rattle.pdb_repairs.specs.Repaired.{repaired_read, repairs_from}
use Rattle.pdb_repairs.proofs.repairs.repair_all.Given as goal

-- the modules so far are repaired, and what was told so far, with what is told of those left, is told of all
abbrev pub invariant-loop-module_index : goal.invariant-loop-module_index
invariant-loop-module_index l =
    (take l.module_index l.info-items ++ map repaired_read (drop l.module_index l.info-items)
    ≡ map repaired_read l.fn.modules.items)
    × (l.repairs.items ++ repairs_from l.module_index (drop l.module_index l.info-items)
    ≡ l.fn.repairs.items ++ repairs_from 0 l.fn.modules.items)
