-- The rows before the offset are those that were appended, and those of the rows that are left.
use Rattle.std.proofs.Common.{◌≡◌, ◌++◌, drop}
use Rattle.std.specs.Prelude.{nat_lt}
use Rattle.pdb_codeview.specs.Places.{front}
use Rattle.pdb_codeview.proofs.line_rows.push_rows_before.Given as goal

abbrev pub invariant-loop-row : goal.invariant-loop-row
invariant-loop-row l =
    l.initial.begun.items ++ front (λ row. nat_lt row.offset l.end) l.rows ≡ l.begun.items ++ front
    (λ row. nat_lt row.offset l.end) (drop l.row-index l.rows)
