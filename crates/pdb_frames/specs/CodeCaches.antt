-- The cached values of modules' code, and that they are those of the records.
use Rattle.std.specs.Prelude.{◌≡◌, ℕ, List, [], Option, Some, Result, Ok, option_map}
use Rattle.std.specs.Ordering.{nat_cmp, ordering_then}
use Rattle.std.specs.declared.cmp.Ordering.{Ordering}
use Rattle.pdb_records.specs.LinePrograms.{Lines}
use Rattle.pdb_records.specs.Readings.{Read}
use Rattle.pdb_records.specs.declared.lines.LineInfo.{LineInfo}
use Rattle.pdb_records.specs.declared.modules.ModuleInfo.{ModuleInfo}
use Rattle.pdb_errors.specs.Outcomes.{and_then, streamed}
use Rattle.pdb_errors.specs.declared.error.Error.{Error}
use Rattle.pdb_functions.specs.FunctionMatches.{FunctionMatch, found_procedure, found_global}
use Rattle.pdb_inline.specs.InlineRanges.{procedure_inline_ranges}
use Rattle.pdb_inline.specs.InlineStacks.{inline_stack}
use Rattle.pdb_inline.specs.declared.inline_ranges.InlineRange.{InlineRange}
use Rattle.pdb_frames.specs.ExtendedInfo.{extended_info_view, extended_info}
use Rattle.pdb_frames.specs.FunctionRows.{row_in}
use Rattle.pdb_frames.specs.Lines.{function_row}
use Rattle.pdb_frames.specs.declared.extended_info.ExtendedModuleInfo.{ExtendedModuleInfo}
use Rattle.pdb_frames.specs.declared.code_keys.FunctionKey.{FunctionKey}
use Rattle.pdb_frames.specs.declared.code_keys.ProcedureKey.{ProcedureKey}

-- the records of modules that can be read, by module index
abbrev pub ModuleRecords : Type 0
ModuleRecords = ℕ → Option ModuleInfo

-- this is the extended info of the module with this index
abbrev pub IsKnownOf : ModuleRecords → ℕ → ExtendedModuleInfo → Type 0
IsKnownOf records module_index known =
    option_map extended_info (records module_index) ≡ Some (Ok (extended_info_view known))

-- the order of functions: by module, section and offset
abbrev pub function_cmp : FunctionKey → FunctionKey → Ordering
function_cmp a b =
    ordering_then (nat_cmp a.module_index b.module_index) (
    ordering_then (nat_cmp a.section b.section) (nat_cmp a.offset b.offset))

-- this is the line program of the module with this index
abbrev pub HasProgram : ModuleRecords → ℕ → Lines → Type 0
HasProgram records module_index program =
    option_map (λ info. streamed info.line_program) (records module_index) ≡ Some (Ok program)

-- these rows give the same row for each offset as the function's line program
abbrev pub AreRowsOf : ModuleRecords → FunctionKey → Read LineInfo → Type 0
AreRowsOf records key rows =
    (program : Lines) → HasProgram records key.module_index program
    → (x : ℕ) → row_in rows x ≡ function_row program (record { section = key.section; offset = key.offset }) x

-- the order of procedures: by module and symbols
abbrev pub procedure_cmp : ProcedureKey → ProcedureKey → Ordering
procedure_cmp a b =
    ordering_then (nat_cmp a.module_index b.module_index) (
    ordering_then (nat_cmp a.symbol b.symbol) (nat_cmp a.end b.end))

-- the inline ranges of a procedure's code, by the records of its module; an error for faulty records of the module's
-- code, or for faulty ranges
abbrev pub procedure_ranges : ModuleInfo → ℕ → ℕ → Result (List InlineRange) Error
procedure_ranges info symbol end =
    and_then (extended_info info) (λ known. procedure_inline_ranges known.inlinees info symbol end)

-- the inlined bodies at an offset of a procedure, the outermost first; an error if its ranges have one
abbrev pub procedure_stack : ModuleInfo → ℕ → ℕ → ℕ → Result (List InlineRange) Error
procedure_stack info symbol end x = and_then (procedure_ranges info symbol end) (λ ranges. Ok (inline_stack ranges x))

-- the inlined bodies at an offset of a function; a global function has none
abbrev pub function_stack : ModuleInfo → FunctionMatch → ℕ → Result (List InlineRange) Error
function_stack info (found_global m f) x = Ok []
function_stack info (found_procedure m p) x = procedure_stack info p.symbol_index.0 p.end_symbol_index.0 x

-- these are the ranges of a procedure, by its module's records
abbrev pub AreRangesOf : ModuleRecords → ProcedureKey → List InlineRange → Type 0
AreRangesOf records key ranges =
    option_map (λ info. procedure_ranges info key.symbol key.end) (records key.module_index) ≡ Some (Ok ranges)
