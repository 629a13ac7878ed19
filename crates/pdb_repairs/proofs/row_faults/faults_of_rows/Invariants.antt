use Rattle.std.proofs.Common.{◌≡◌, ◌+◌, ◌≤◌, drop, length}
use Rattle.std.specs.Prelude.{slice_get}
use Rattle.std.specs.Option.{option_or}
use Rattle.pdb_repairs.specs.RowFaults.{row_faults}
use Rattle.pdb_repairs.proofs.row_faults.faults_of_rows.Given as goal

-- the first fault so far, or else of what is left, is that of all, and so many sites are counted as were seen
abbrev pub invariant-loop-symbol : goal.invariant-loop-symbol
invariant-loop-symbol l =
    (option_or l.first (slice_get (row_faults (drop l.symbol-index l.symbols)) 0) ≡ slice_get (row_faults l.symbols) 0)
    × (l.count + length (row_faults (drop l.symbol-index l.symbols)) ≡ length (row_faults l.symbols))
    × (l.count ≤ l.symbol-index)
