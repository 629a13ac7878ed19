-- The modules are those that were read and those that are left.
use Rattle.std.proofs.Common.{◌≡◌, ◌++◌, drop, map}
use Rattle.pdb_container.specs.ModulePlaces.{module_of}
use Rattle.pdb_container.proofs.module_infos.read_modules.Given as goal

abbrev pub invariant-loop-place : goal.invariant-loop-place
invariant-loop-place l = map (module_of l.container) l.place-items
    ≡ l.infos.items ++ map (module_of l.container) (drop l.place-index l.place-items)
