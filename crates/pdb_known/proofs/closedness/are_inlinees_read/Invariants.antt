-- All ids were read exactly if those were that are left.
use Rattle.std.proofs.Common.{◌≡◌, drop}
use Rattle.std.specs.List.{list_all}
use Rattle.pdb_known.specs.StrictlyClosed.{is_inlinee_read}
use Rattle.pdb_known.proofs.closedness.are_inlinees_read.Given as goal

abbrev pub invariant-loop-symbol : goal.invariant-loop-symbol
invariant-loop-symbol l =
    list_all (is_inlinee_read l.known) l.symbols
    ≡ list_all (is_inlinee_read l.known) (drop l.symbol-index l.symbols)
