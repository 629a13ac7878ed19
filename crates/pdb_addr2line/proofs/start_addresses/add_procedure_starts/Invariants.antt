use Rattle.std.proofs.Common.{◌≡◌, map, drop}
use Rattle.pdb_functions.specs.Procedures.{module_procedure}
use Rattle.pdb_addr2line.specs.FunctionIter.{with_starts}
use Rattle.pdb_addr2line.proofs.start_addresses.add_procedure_starts.Given as goal

-- the addresses so far, with those of the procedures that are left, are all addresses
abbrev pub invariant-loop-procedure : goal.invariant-loop-procedure
invariant-loop-procedure l =
    with_starts l.address_map l.starts.keys
    (map (λ p. p.offset) (map module_procedure (drop l.procedure-index l.procedures)))
    ≡ with_starts l.address_map l.initial.starts.keys (map (λ p. p.offset) (map module_procedure l.procedures))
