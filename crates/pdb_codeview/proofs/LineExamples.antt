-- Worked examples of the rules of lines.
use Rattle.std.proofs.Common.{◌≡◌, ℕ, List, [], ◌∷◌, refl}
use Rattle.std.specs.Prelude.{None}
use Rattle.pdb_records.specs.declared.addresses.PdbInternalSectionOffset.{PdbInternalSectionOffset}
use Rattle.pdb_records.specs.declared.lines.LineInfo.{LineInfo}
use Rattle.pdb_records.specs.declared.lines.SymbolLines.{SymbolLines}
use Rattle.pdb_codeview.specs.declared.line_subsections.LineSubsection.{LineSubsection}
use Rattle.pdb_codeview.specs.declared.procedure_spans.ProcedureSpan.{ProcedureSpan}
use Rattle.pdb_codeview.specs.LineProgram.{program_entries}
use Rattle.pdb_codeview.specs.LineRows.{rows_with_bytes}

-- an offset in the first section
abbrev at : ℕ → PdbInternalSectionOffset
at offset = record { section = 1; offset = offset }

-- a row of the first file
abbrev at_line : ℕ → ℕ → LineInfo
at_line offset line = record { offset = offset; file_index = record { 0 = 0 }; line_start = line }

abbrev subsection : ℕ → ℕ → List LineInfo → LineSubsection
subsection start size rows = record { offset = at start; size = size; rows = record { items = rows; fault = None } }

abbrev procedure : ℕ → ℕ → ProcedureSpan
procedure start len = record { start = at start; len = len }

abbrev entry : ℕ → List LineInfo → SymbolLines
entry start rows = record { offset = at start; lines = record { items = rows; fault = None } }

-- an opening brace that makes no code, and the first statement
brace_and_statement : rows_with_bytes (at_line 0 14 ∷ at_line 0 15 ∷ at_line 9 17 ∷ [])
    ≡ at_line 0 15 ∷ at_line 9 17 ∷ []
brace_and_statement = refl

-- a function that begins with an inlined body
inlined_at_the_start : program_entries (subsection 16 32 (at_line 34 37 ∷ at_line 40 38 ∷ []) ∷ [])
    (procedure 16 32 ∷ [])
    ≡ entry 16 (at_line 16 37 ∷ at_line 40 38 ∷ []) ∷ []
inlined_at_the_start = refl

-- a subsection of assembler code with two procedures, neither at its start
assembler : program_entries (subsection 16 64 (at_line 20 5 ∷ at_line 40 6 ∷ []) ∷ [])
    (procedure 48 16 ∷ procedure 32 16 ∷ [])
    ≡ entry 16 (at_line 20 5 ∷ at_line 40 6 ∷ [])
    ∷ entry 32 (at_line 32 5 ∷ at_line 40 6 ∷ [])
    ∷ entry 48 (at_line 48 6 ∷ []) ∷ []
assembler = refl

-- a procedure inside of another: after its end the outer one goes on
nested : program_entries (subsection 16 64 (at_line 16 1 ∷ at_line 32 2 ∷ at_line 40 3 ∷ []) ∷ [])
    (procedure 24 48 ∷ procedure 32 8 ∷ [])
    ≡ entry 16 (at_line 16 1 ∷ at_line 32 2 ∷ at_line 40 3 ∷ [])
    ∷ entry 24 (at_line 24 1 ∷ at_line 32 2 ∷ at_line 40 3 ∷ [])
    ∷ entry 32 (at_line 32 2 ∷ []) ∷ []
nested = refl
