-- All types were read exactly if those were that are left.
use Rattle.std.proofs.Common.{◌≡◌, drop}
use Rattle.std.specs.List.{list_all}
use Rattle.pdb_known.specs.StrictlyClosed.{is_procedure_type_read}
use Rattle.pdb_known.proofs.closedness.are_procedure_types_read.Given as goal

abbrev pub invariant-loop-symbol : goal.invariant-loop-symbol
invariant-loop-symbol l =
    list_all (is_procedure_type_read l.known) l.symbols
    ≡ list_all (is_procedure_type_read l.known) (drop l.symbol-index l.symbols)
