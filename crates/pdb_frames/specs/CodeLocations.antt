-- The source locations of the code at an offset of a function.
use Rattle.std.specs.Prelude.{ℕ, List, [], Option, Result, Ok}
use Rattle.pdb_records.specs.LinePrograms.{Lines}
use Rattle.pdb_records.specs.declared.ids.IdIndex.{IdIndex}
use Rattle.pdb_records.specs.declared.lines.LineInfo.{LineInfo}
use Rattle.pdb_records.specs.declared.modules.ModuleInfo.{ModuleInfo}
use Rattle.pdb_errors.specs.Outcomes.{and_then}
use Rattle.pdb_errors.specs.declared.error.Error.{Error}
use Rattle.pdb_functions.specs.FunctionMatches.{FunctionMatch, found_procedure, found_global, function_start}
use Rattle.pdb_inline.specs.InlineRanges.{procedure_inline_ranges}
use Rattle.pdb_inline.specs.InlineStacks.{inline_stack}
use Rattle.pdb_inline.specs.declared.inline_ranges.InlineRange.{InlineRange}
use Rattle.pdb_frames.specs.Lines.{function_row}
use Rattle.pdb_frames.specs.ExtendedInfo.{extended_info}
use Rattle.pdb_frames.specs.declared.code_locations.CodeLocation as code

-- the location of code: the module's line program, which has the files, the line row at the code, and the inlined
-- bodies there, the outermost first
pub record CodeLocation : Type 0 where
  pub line_program : Lines
  pub row : Option LineInfo
  pub stack : List InlineRange

-- the model of the code's `CodeLocation`
abbrev pub code_location_view : code.CodeLocation → CodeLocation
code_location_view o = record { line_program = o.line_program.now; row = o.row; stack = o.stack.items }

-- the inline ranges of a function's code for these ids; a global function has no inline sites, and so no ranges
abbrev pub function_ranges : List IdIndex → ModuleInfo → FunctionMatch → Result (List InlineRange) Error
function_ranges inlinees info (found_global m f) = Ok []
function_ranges inlinees info (found_procedure m p) =
    procedure_inline_ranges inlinees info p.symbol_index.0 p.end_symbol_index.0

-- the location of the code at an offset of a function, by the records of its module. An error for faulty records of the
-- module's code, then for faulty line rows, and then for faulty inline ranges
abbrev pub code_location : ModuleInfo → FunctionMatch → ℕ → Result CodeLocation Error
code_location info found x =
    and_then (extended_info info) (λ known.
    and_then (function_row known.line_program (function_start found) x) (λ row.
    and_then (function_ranges known.inlinees info found) (λ ranges.
    Ok (record { line_program = known.line_program; row = row; stack = inline_stack ranges x }))))
