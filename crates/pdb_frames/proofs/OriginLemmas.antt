-- Where code comes from, step by step.
use Rattle.std.proofs.Common.{◌≡◌, ℕ, List, [], Option, refl}
use Rattle.std.specs.Prelude.{Result, Ok, Err}
use Rattle.pdb_records.specs.LinePrograms.{Lines}
use Rattle.pdb_records.specs.declared.lines.LineInfo.{LineInfo}
use Rattle.pdb_records.specs.declared.modules.ModuleInfo.{ModuleInfo}
use Rattle.pdb_errors.specs.Outcomes.{and_then}
use Rattle.pdb_errors.specs.declared.error.Error.{Error}
use Rattle.pdb_functions.specs.FunctionMatches.{FunctionMatch, found_procedure, found_global, function_start}
use Rattle.pdb_inline.specs.InlineRanges.{procedure_inline_ranges}
use Rattle.pdb_inline.specs.InlineStacks.{inline_stack}
use Rattle.pdb_inline.specs.declared.inline_ranges.InlineRange.{InlineRange}
use Rattle.pdb_frames.specs.CodeCaches.{function_stack}
use Rattle.pdb_frames.specs.ExtendedInfo.{ExtendedInfo, extended_info}
use Rattle.pdb_frames.specs.Lines.{function_row}
use Rattle.pdb_frames.specs.CodeLocations.{CodeLocation, code_location}

-- where code comes from, by its line program, row and stack
abbrev origin_of : Lines → Option LineInfo → List InlineRange → CodeLocation
origin_of program row stack = record { line_program = program; row = row; stack = stack }

-- the stack may be made before the origin
stack_first : (program : Lines) (x : ℕ) (row : Result (Option LineInfo) Error)
    (ranges : Result (List InlineRange) Error)
    → and_then row (λ row. and_then ranges (λ ranges. Ok (origin_of program row (inline_stack ranges x))))
    ≡ and_then row (λ row. and_then (and_then ranges (λ ranges. Ok (inline_stack ranges x)))
    (λ stack. Ok (origin_of program row stack)))
stack_first program x (Err e) ranges = refl
stack_first program x (Ok row) (Err e) = refl
stack_first program x (Ok row) (Ok ranges) = refl

-- a global function has no inlined bodies
none_in_global : (program : Lines) (x : ℕ) (row : Result (Option LineInfo) Error)
    → and_then row (λ row. Ok (origin_of program row (inline_stack [] x)))
    ≡ and_then row (λ row. Ok (origin_of program row []))
none_in_global program x (Err e) = refl
none_in_global program x (Ok row) = refl

-- where code comes from: its module's line program, then the row, and then the inlined bodies
pub origin_by_stack : (info : ModuleInfo) (found : FunctionMatch) (x : ℕ)
    → code_location info found x ≡ and_then (extended_info info)
    (λ known. and_then (function_row known.line_program (function_start found) x)
    (λ row. and_then (function_stack info found x)
    (λ stack. Ok (record { line_program = known.line_program; row = row; stack = stack }))))
origin_by_stack info (found_global m f) x = by_known (extended_info info) where
  by_known : (r : Result ExtendedInfo Error)
      → and_then r (λ known. and_then (function_row known.line_program f.start x)
      (λ row. Ok (origin_of known.line_program row (inline_stack [] x))))
      ≡ and_then r (λ known. and_then (function_row known.line_program f.start x)
      (λ row. Ok (origin_of known.line_program row [])))
  by_known (Err e) = refl
  by_known (Ok known) = none_in_global known.line_program x (function_row known.line_program f.start x)
origin_by_stack info (found_procedure m p) x = by_known (extended_info info) where
  by_known : (r : Result ExtendedInfo Error)
      → and_then r (λ known. and_then (function_row known.line_program p.offset x)
      (λ row. and_then (procedure_inline_ranges known.inlinees info p.symbol_index.0 p.end_symbol_index.0)
      (λ ranges. Ok (origin_of known.line_program row (inline_stack ranges x)))))
      ≡ and_then r (λ known. and_then (function_row known.line_program p.offset x)
      (λ row. and_then (and_then (and_then r
      (λ k. procedure_inline_ranges k.inlinees info p.symbol_index.0 p.end_symbol_index.0))
      (λ ranges. Ok (inline_stack ranges x))) (λ stack. Ok (origin_of known.line_program row stack))))
  by_known (Err e) = refl
  by_known (Ok known) = stack_first known.line_program x (function_row known.line_program p.offset x)
      (procedure_inline_ranges known.inlinees info p.symbol_index.0 p.end_symbol_index.0)
