-- What is known of the modules so far, where those so far are the ones at their positions.
use Rattle.std.proofs.Common.{◌≡◌, All, List, length}
use Rattle.pdb_container.specs.ModulePlaces.{ModuleOrFault}
use Rattle.pdb_session.specs.FileParts.{AreModulesOf, HasRepairsOf, IsModuleOf}
use Rattle.pdb_session.specs.UntoldRepairs.{LeaveUntold}
use Rattle.pdb_session.proofs.module_reads.put_modules.Given as goal

abbrev pub invariant-loop-one : goal.invariant-loop-one
invariant-loop-one l = record {
  modules : (whole : List ModuleOrFault) → All (IsModuleOf whole) l.yielded
      → AreModulesOf whole l.fn.marks l.fn.modules → AreModulesOf whole l.marks l.modules;
  untold : (whole : List ModuleOrFault) → All (HasRepairsOf whole) l.yielded
      → LeaveUntold whole l.fn.marks l.fn.kept l.marks l.kept;
  count : length l.kept ≡ length l.fn.kept;
}
