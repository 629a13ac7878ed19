-- The function at a place is known, or the first among the symbols that are left.
use Rattle.std.proofs.Common.{◌≡◌, ℕ, drop}
use Rattle.std.specs.BTreeMap.{get}
use Rattle.std.specs.Option.{option_or}
use Rattle.std.specs.Ordering.{nat_cmp}
use Rattle.pdb_container.specs.FunctionsByStart.{function_at, seen}
use Rattle.pdb_container.proofs.functions_by_start.add_functions.Given as goal

abbrev pub invariant-loop-symbol : goal.invariant-loop-symbol
invariant-loop-symbol l = (asked : ℕ)
    → option_or (seen (get nat_cmp l.functions asked)) (function_at asked (drop l.symbol-index l.symbols))
    ≡ option_or (seen (get nat_cmp l.initial.functions asked)) (function_at asked l.symbols)
