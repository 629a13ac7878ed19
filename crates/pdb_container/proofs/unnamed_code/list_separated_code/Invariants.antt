-- The code apart is what was found and what is among the symbols that are left.
use Rattle.std.proofs.Common.{◌≡◌, ◌++◌, drop}
use Rattle.std.specs.Prelude.{None}
use Rattle.pdb_container.specs.UnnamedCode.{separated_from}
use Rattle.pdb_container.proofs.unnamed_code.list_separated_code.Given as goal

abbrev pub invariant-loop-position : goal.invariant-loop-position
invariant-loop-position l = separated_from 0 None l.symbols
    ≡ l.separated.items ++ separated_from l.position l.before (drop l.position l.symbols)
