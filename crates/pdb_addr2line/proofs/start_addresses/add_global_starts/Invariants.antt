use Rattle.std.proofs.Common.{◌≡◌, map, drop}
use Rattle.pdb_functions.specs.GlobalFunctions.{global_function}
use Rattle.pdb_addr2line.specs.FunctionIter.{with_starts}
use Rattle.pdb_addr2line.proofs.start_addresses.add_global_starts.Given as goal

-- the addresses so far, with those of the functions that are left, are all addresses
abbrev pub invariant-loop-function : goal.invariant-loop-function
invariant-loop-function l =
    with_starts l.address_map l.starts.keys
    (map (λ f. f.start) (map global_function (drop l.function-index l.functions)))
    ≡ with_starts l.address_map l.initial.starts.keys (map (λ f. f.start) (map global_function l.functions))
