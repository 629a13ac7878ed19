-- The modules so far are repaired, and their repairs, with those of the modules that are left, are those of all.
use Rattle.std.proofs.Common.{◌≡◌, ◌++◌, drop, map, take}
use Rattle.pdb_repairs.specs.Repaired.{repaired_read}
use Rattle.pdb_session.specs.UntoldRepairs.{untold_from}
use Rattle.pdb_session.proofs.module_reads.repair_modules.Given as goal

abbrev pub invariant-loop-module_index : goal.invariant-loop-module_index
invariant-loop-module_index l = record {
  state : take l.module_index l.modules ++ map repaired_read (drop l.module_index l.modules)
      ≡ map repaired_read l.fn.modules;
  repairs : map (λ told. told.items) l.repairs.items
      ++ untold_from l.known.modules l.kept l.module_index (drop l.module_index l.modules)
      ≡ untold_from l.known.modules l.kept 0 l.fn.modules;
}
