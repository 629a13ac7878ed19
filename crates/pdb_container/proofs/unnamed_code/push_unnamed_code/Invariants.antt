-- The code is what was appended and what is left.
use Rattle.std.proofs.Common.{◌≡◌, ◌++◌, drop, map}
use Rattle.pdb_container.specs.UnnamedCode.{code_in_module}
use Rattle.pdb_container.proofs.unnamed_code.push_unnamed_code.Given as goal

abbrev pub invariant-loop-code : goal.invariant-loop-code
invariant-loop-code l = l.initial.codes.items ++ map (code_in_module l.module_index l.symbols) l.code-items
    ≡ l.codes.items ++ map (code_in_module l.module_index l.symbols) (drop l.code-index l.code-items)
