use Rattle.std.proofs.Common.{◌≡◌, ◌++◌, map, drop}
use Rattle.std.specs.List.{filter_map}
use Rattle.pdb_functions.specs.GlobalFunctions.{global_function, public_function}
use Rattle.pdb_functions.proofs.global_functions.public_symbol_functions.Given as goal

-- the functions so far, and those of what is left, are those of all
abbrev pub invariant-loop-symbol : goal.invariant-loop-symbol
invariant-loop-symbol l = map global_function l.functions.items ++ filter_map (public_function l.sections)
    (drop l.symbol-index l.symbols) ≡ filter_map (public_function l.sections) l.symbols
