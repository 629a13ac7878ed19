-- The entries of all procedures are those that were appended, and those of the procedures that are left; the rows over
-- are those of all from there on.
use Rattle.std.proofs.Common.{◌≡◌, ◌≤◌, ℕ, ◌++◌, drop}
use Rattle.std.specs.Prelude.{map}
use Rattle.pdb_codeview.specs.LineProgram.{starts_in, procedure_entry}
use Rattle.pdb_codeview.specs.Places.{from_last, front}
use Rattle.pdb_codeview.proofs.line_program.push_procedure_entries.Given as goal

abbrev pub invariant-loop-bounds : goal.invariant-loop-bounds
invariant-loop-bounds l = record {
  entries : l.initial.entries.items
      ++ map (procedure_entry l.subsection l.rows) (front (starts_in l.subsection l.next) l.procedures)
      ≡ l.entries.items ++ map (procedure_entry l.subsection l.rows) (front (starts_in l.subsection l.next)
      (drop l.bounds-index l.procedures));
  onward : (y : ℕ) → l.asked ≤ y
      → from_last (λ row. row.offset) y l.over ≡ from_last (λ row. row.offset) y l.rows;
}
