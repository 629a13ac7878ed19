-- The entries of a module's line program, from its subsections of lines and its procedures.
use Rattle.std.specs.Prelude.{ℕ, ◌+◌, ◌-◌, ◌^◌, ◌==◌, ◌&&◌, Bool, false, min, nat_lt, nat_le, List, [], ◌∷◌, ◌++◌, map}
use Rattle.std.specs.Prelude.{if◌then◌else◌}
use Rattle.pdb_tables.specs.InOrder.{in_order}
use Rattle.pdb_records.specs.declared.lines.LineInfo.{LineInfo}
use Rattle.pdb_records.specs.declared.lines.SymbolLines.{SymbolLines}
use Rattle.pdb_codeview.specs.declared.line_subsections.LineSubsection.{LineSubsection}
use Rattle.pdb_codeview.specs.declared.procedure_spans.ProcedureSpan.{ProcedureSpan}
use Rattle.pdb_codeview.specs.declared.procedure_spans.RowBounds.{RowBounds}
use Rattle.pdb_codeview.specs.LineRows.{rows_with_bytes, rows_from, rows_between}
use Rattle.pdb_codeview.specs.Places.{place, stands_before, first_of_each_place, from_last, front}
use Rattle.pdb_codeview.specs.ProcedureSpans.{row_bounds}

-- whether the first procedure starts at this place
abbrev pub starts_at : ℕ → List RowBounds → Bool
starts_at x [] = false
starts_at x (bounds ∷ others) = place bounds.start == x

-- the procedures, without the first one if it starts at or before a place
abbrev pub starts_behind : ℕ → List RowBounds → List RowBounds
starts_behind x [] = []
starts_behind x (bounds ∷ others) = if nat_le (place bounds.start) x then others else bounds ∷ others

-- the end of a subsection, as an offset in its section
abbrev pub subsection_end : LineSubsection → ℕ
subsection_end subsection = subsection.offset.offset + subsection.size

-- whether a procedure starts in the bytes of a subsection, and before the next subsection
abbrev pub starts_in : LineSubsection → ℕ → RowBounds → Bool
starts_in subsection next bounds =
    (bounds.start.section == subsection.offset.section) && nat_lt bounds.start.offset (subsection_end subsection)
    && nat_lt (place bounds.start) next

-- the entry of a subsection itself; if a procedure starts at the same place, the first row begins with it
abbrev pub subsection_entry : LineSubsection → List LineInfo → List RowBounds → SymbolLines
subsection_entry subsection rows here = record {
  offset = subsection.offset;
  lines = record {
    items = if starts_at (place subsection.offset) here then rows_from subsection.offset.offset rows else rows;
    fault = subsection.rows.fault;
  };
}

-- the entry of a procedure that starts in a subsection: the rows over its bytes
abbrev pub procedure_entry : LineSubsection → List LineInfo → RowBounds → SymbolLines
procedure_entry subsection rows bounds = record {
  offset = bounds.start;
  lines = record {
    items = rows_between bounds.start.offset (min bounds.end (subsection_end subsection)) rows;
    fault = subsection.rows.fault;
  };
}

-- the entries of a subsection: its own, and one for each procedure that starts further on in it. The procedures are
-- those from the last one that starts at or before the subsection's start
abbrev pub subsection_entries : LineSubsection → ℕ → List RowBounds → List SymbolLines
subsection_entries subsection next here =
    subsection_entry subsection (rows_with_bytes subsection.rows.items) here
    ∷ map (procedure_entry subsection (rows_with_bytes subsection.rows.items))
    (front (starts_in subsection next) (starts_behind (place subsection.offset) here))

-- the place of the next subsection, or 2 ^ 64 - 1 if there is none
abbrev pub next_place : List LineSubsection → ℕ
next_place [] = 2 ^ 64 - 1
next_place (subsection ∷ subsections) = place subsection.offset

-- the entries of subsections sorted by start, each with those of the procedures in it
abbrev pub entries_of : List RowBounds → List LineSubsection → List SymbolLines
entries_of bounds [] = []
entries_of bounds (subsection ∷ subsections) =
    subsection_entries subsection (next_place subsections)
    (from_last (λ b. place b.start) (place subsection.offset) bounds)
    ++ entries_of bounds subsections

-- the entries of a module; of several procedures with one start, only the first in reading order counts
abbrev pub program_entries : List LineSubsection → List ProcedureSpan → List SymbolLines
program_entries subsections procedures =
    entries_of (row_bounds 0 (first_of_each_place (λ span. place span.start) procedures))
    (in_order (stands_before (λ subsection. place subsection.offset)) subsections)
