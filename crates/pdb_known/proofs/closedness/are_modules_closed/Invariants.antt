-- All modules are closed exactly if those are that are left.
use Rattle.std.proofs.Common.{◌≡◌, drop}
use Rattle.pdb_known.specs.StrictlyClosed.{are_modules_strictly_closed}
use Rattle.pdb_known.proofs.closedness.are_modules_closed.Given as goal

abbrev pub invariant-loop-module_index : goal.invariant-loop-module_index
invariant-loop-module_index l =
    are_modules_strictly_closed l.known 0 l.answers
    ≡ are_modules_strictly_closed l.known l.module_index (drop l.module_index l.answers)
