-- The code is that of the modules that were read and of those that are left.
use Rattle.std.proofs.Common.{◌≡◌, ◌++◌, drop}
use Rattle.pdb_container.specs.UnnamedCode.{code_from}
use Rattle.pdb_container.proofs.unnamed_code.list_unnamed_code.Given as goal

abbrev pub invariant-loop-module_index : goal.invariant-loop-module_index
invariant-loop-module_index l = code_from 0 l.modules
    ≡ l.codes.items ++ code_from l.module_index (drop l.module_index l.modules)
