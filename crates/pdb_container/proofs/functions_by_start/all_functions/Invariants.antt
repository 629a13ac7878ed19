-- The function at a place is known, or the first among the modules that are left.
use Rattle.std.proofs.Common.{◌≡◌, ℕ, drop}
use Rattle.std.specs.BTreeMap.{get}
use Rattle.std.specs.Option.{option_or}
use Rattle.std.specs.Ordering.{nat_cmp}
use Rattle.pdb_container.specs.FunctionsByStart.{function_in, seen}
use Rattle.pdb_container.proofs.functions_by_start.all_functions.Given as goal

abbrev pub invariant-loop-read : goal.invariant-loop-read
invariant-loop-read l = (asked : ℕ)
    → option_or (seen (get nat_cmp l.functions asked)) (function_in asked (drop l.read-index l.modules))
    ≡ function_in asked l.modules
