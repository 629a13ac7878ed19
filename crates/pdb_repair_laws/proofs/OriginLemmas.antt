-- Where code comes from, by the records of a module that was repaired.
use Rattle.std.proofs.Common.{◌≡◌, ℕ, Bool, true, false, List, [], ◌∷◌, map, drop, refl}
use Rattle.std.specs.Prelude.{Option, Some, None, Result, Ok, Err, option_map, find, if◌then◌else◌}
use Rattle.pdb_records.specs.Addresses.{is_same_section_offset}
use Rattle.pdb_records.specs.LinePrograms.{Lines}
use Rattle.pdb_records.specs.Lines.{lines_at}
use Rattle.pdb_records.specs.Readings.{Read}
use Rattle.pdb_records.specs.declared.addresses.PdbInternalSectionOffset.{PdbInternalSectionOffset}
use Rattle.pdb_records.specs.declared.error.StreamError.{StreamError}
use Rattle.pdb_records.specs.declared.ids.IdIndex.{IdIndex}
use Rattle.pdb_records.specs.declared.lines.LineInfo.{LineInfo}
use Rattle.pdb_records.specs.declared.lines.SymbolLines.{SymbolLines}
use Rattle.pdb_records.specs.declared.modules.ModuleInfo.{ModuleInfo}
use Rattle.pdb_functions.specs.FunctionMatches.{FunctionMatch, found_procedure, found_global, function_start}
use Rattle.pdb_inline.specs.InlineRanges.{inline_ranges}
use Rattle.pdb_inline.specs.InlineStacks.{inline_stack}
use Rattle.pdb_inline.specs.Sites.{walk}
use Rattle.pdb_frames.specs.ExtendedInfo.{inlinee_ids}
use Rattle.pdb_frames.specs.Lines.{function_rows, row_over}
use Rattle.pdb_frames.specs.CodeLocations.{code_location, function_ranges}
use Rattle.pdb_repairs.specs.Repaired.{repaired_entry, repaired_lines, repaired_module, repaired_program, repaired_rows}
use Rattle.pdb_repair_laws.proofs.WalkLemmas.{meets_no_fault}

-- a result is an answer
abbrev pub IsAnswer : {A E : Type 0} → Result A E → Type 0
IsAnswer {A} result = (answer : A) × (result ≡ Ok answer)

-- the entry at a section offset is repaired, where its list is
found_repaired : (start : PdbInternalSectionOffset) (entries : List SymbolLines)
    → lines_at start (map repaired_entry entries) ≡ option_map repaired_rows (lines_at start entries)
found_repaired start [] = refl
found_repaired start (entry ∷ entries) =
    by_test (is_same_section_offset entry.offset start) (found_repaired start entries)
  where
    by_test : (test : Bool) → lines_at start (map repaired_entry entries)
        ≡ option_map repaired_rows (lines_at start entries)
        → option_map (λ (e : SymbolLines). e.lines) (if test then Some (repaired_entry entry)
        else find (λ (e : SymbolLines). is_same_section_offset e.offset start) (map repaired_entry entries))
        ≡ option_map repaired_rows (option_map (λ (e : SymbolLines). e.lines) (if test then Some entry
        else find (λ (e : SymbolLines). is_same_section_offset e.offset start) entries))
    by_test true later = refl
    by_test false later = later

-- the rows of a function are answered, where entries are repaired
rows_answered : (start : PdbInternalSectionOffset) (program : Lines)
    → IsAnswer (function_rows (repaired_program program) start)
rows_answered start program = by_found (lines_at start program.entries) refl where
  by_found : (found : Option (Read LineInfo)) → lines_at start program.entries ≡ found
      → IsAnswer (function_rows (repaired_program program) start)
  by_found None is = ([], rw (found_repaired start program.entries, is) refl)
  by_found (Some rows) is = ((repaired_rows rows).items, rw (found_repaired start program.entries, is) refl)

-- a line program that was repaired, and the rows of a function in it
record RepairedLines (read : Result Lines StreamError) (start : PdbInternalSectionOffset) : Type 0 where
  program : Lines
  is : repaired_lines read ≡ Ok program
  rows : IsAnswer (function_rows program start)

-- each line program is one that can be read, once it was repaired
lines_answered : (read : Result Lines StreamError) (start : PdbInternalSectionOffset) → RepairedLines read start
lines_answered (Ok program) start = record {
  program = repaired_program program;
  is = refl;
  rows = rows_answered start program;
}
lines_answered (Err fault) start = record {
  program = record { entries = []; files = [] };
  is = refl;
  rows = ([], refl);
}

-- the ranges of a function are answered
ranges_answered : (inlinees : List IdIndex) (info : ModuleInfo) (found : FunctionMatch)
    → IsAnswer (function_ranges inlinees (repaired_module info) found)
ranges_answered inlinees info (found_global m f) = ([], refl)
ranges_answered inlinees info (found_procedure m p) =
    let position = p.symbol_index.0 in
    let end = p.end_symbol_index.0 in (
      inline_ranges inlinees (walk info.symbols.items None position end).sites,
      rw (meets_no_fault end (drop position info.symbols.items) position position []) refl,
    )

-- where code comes from is answered
pub origin_answered : (info : ModuleInfo) (found : FunctionMatch) (x : ℕ)
    → IsAnswer (code_location (repaired_module info) found x)
origin_answered info found x =
    let lines = lines_answered info.line_program (function_start found) in
    let (rows, rows_are) = lines.rows in
    let (ranges, ranges_are) = ranges_answered (inlinee_ids info.inlinees.items) info found in (
      record { line_program = lines.program; row = row_over rows x; stack = inline_stack ranges x },
      rw (lines.is, rows_are, ranges_are) refl,
    )
