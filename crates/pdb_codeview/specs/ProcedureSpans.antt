-- The code ranges of a module's procedures, and how far the rows of each reach.
use Rattle.std.specs.Prelude.{ℕ, ◌+◌, ◌==◌, min, max, nat_lt, List, [], ◌∷◌, Option, Some, None, if◌then◌else◌}
use Rattle.std.specs.List.{filter_map}
use Rattle.pdb_records.specs.declared.addresses.PdbInternalSectionOffset.{PdbInternalSectionOffset}
use Rattle.pdb_records.specs.declared.symbols.Symbol.{Symbol}
use Rattle.pdb_records.specs.declared.symbols.SymbolData.{SymbolData}
use Rattle.pdb_records.specs.declared.symbols.SymbolData.TheVariants.{Procedure, SeparatedCode, Thunk}
use Rattle.pdb_codeview.specs.declared.procedure_spans.ProcedureSpan.{ProcedureSpan}
use Rattle.pdb_codeview.specs.declared.procedure_spans.RowBounds.{RowBounds}
use Rattle.pdb_codeview.specs.Places.{place}

-- the range of `len` bytes from a start on; absent if `len` is 0
abbrev pub span : PdbInternalSectionOffset → ℕ → Option ProcedureSpan
span start len = if nat_lt 0 len then Some (record { start = start; len = len }) else None

-- the code range of a symbol: a procedure, a thunk, or separated code
abbrev pub span_of : Option SymbolData → Option ProcedureSpan
span_of (Some (Procedure s)) = span s.offset s.len
span_of (Some (SeparatedCode s)) = span s.offset s.len
span_of (Some (Thunk s)) = span s.offset s.len
span_of content = None

-- the code ranges of symbols, in reading order
abbrev pub symbol_spans : List Symbol → List ProcedureSpan
symbol_spans symbols = filter_map (λ symbol. span_of symbol.content) symbols

-- the end of a procedure, as an offset in its section
abbrev pub end_of : ProcedureSpan → ℕ
end_of span = span.start.offset + span.len

-- the end of a procedure, or the start of the next one if that is lower
abbrev pub end_before : ProcedureSpan → List ProcedureSpan → ℕ
end_before span [] = end_of span
end_before span (next ∷ spans) =
    if span.start.section == next.start.section then min (end_of span) next.start.offset else end_of span

-- the place after a procedure
abbrev pub place_behind : ProcedureSpan → ℕ
place_behind span = place span.start + span.len

-- how far the rows of each procedure reach, for procedures sorted by start; `reach` is the end of those before. Rows
-- reach to the procedure's end, but those of a procedure that starts inside an earlier one end at the next one's start
abbrev pub row_bounds : ℕ → List ProcedureSpan → List RowBounds
row_bounds reach [] = []
row_bounds reach (span ∷ spans) =
    record {
      start = span.start;
      end = if nat_lt (place span.start) reach then end_before span spans else end_of span;
    } ∷ row_bounds (max reach (place_behind span)) spans
