-- The part that is to blame has the error.
use Rattle.std.proofs.Common.{◌≡◌, ℕ, cond, List, Option, Some, None, Ok, Err, Result, refl}
use Rattle.pdb_records.specs.declared.lines.LineInfo.{LineInfo}
use Rattle.pdb_records.specs.declared.modules.ModuleInfo.{ModuleInfo}
use Rattle.pdb_errors.specs.declared.error.Error.{Error}
use Rattle.pdb_errors.specs.Outcomes.{and_then}
use Rattle.pdb_functions.specs.FunctionMatches.{FunctionMatch, function_module, function_start}
use Rattle.pdb_inline.specs.declared.inline_ranges.InlineRange.{InlineRange}
use Rattle.pdb_inline.specs.InlineStacks.{inline_stack}
use Rattle.pdb_frames.specs.declared.code_parts.CodePart.{CodePart}
use Rattle.pdb_frames.specs.declared.code_parts.CodePart.TheVariants as part
use Rattle.pdb_frames.specs.CodeParts.{is_refused, blame_after_info, part_to_blame}
use Rattle.pdb_frames.specs.ExtendedInfo.{ExtendedInfo, extended_info}
use Rattle.pdb_frames.specs.Lines.{function_rows, row_over}
use Rattle.pdb_frames.specs.CodeLocations.{CodeLocation, code_location, function_ranges}
use Rattle.pdb_laws.specs.Blame.{error_of, own_error}

-- the part that is to blame has the error
pub blamed : (info : ModuleInfo) (found : FunctionMatch) (x : ℕ) (e : Error) → code_location info found x ≡ Err e
    → own_error info found (part_to_blame info found) ≡ Some e
blamed info found x e = by_info (extended_info info) where
  part_of : Result ExtendedInfo Error → CodePart
  part_of r = blame_after_info (function_module found) (function_start found)
      (and_then r (λ known. Ok known.line_program))

  own : Result ExtendedInfo Error → CodePart → Option Error
  own r (part.ExtendedInfo m) = error_of r
  own r (part.Lines m start) = error_of (and_then r (λ known. function_rows known.line_program (function_start found)))
  own r (part.InlineRanges m start) = error_of (and_then r (λ known. function_ranges known.inlinees info found))

  by_rows : (known : ExtendedInfo) (rows : Result (List LineInfo) Error) (ranges : Result (List InlineRange) Error)
      → function_rows known.line_program (function_start found) ≡ rows
      → function_ranges known.inlinees info found ≡ ranges
      → and_then (and_then rows (λ rs. Ok (row_over rs x)))
      (λ row. and_then ranges (λ rs. Ok
      (record { line_program = known.line_program; row = row; stack = inline_stack rs x }))) ≡
      (let answer : Result CodeLocation Error = Err e in answer)
      → own (Ok known) (cond (is_refused rows) (part.Lines (function_module found) (function_start found))
      (part.InlineRanges (function_module found) (function_start found))) ≡ Some e
  by_rows known (Err f) ranges rows_are ranges_are is = rw rows_are (cc)
  by_rows known (Ok rows) (Err f) rows_are ranges_are is = rw ranges_are (cc)
  by_rows known (Ok rows) (Ok ranges) rows_are ranges_are is = absurd (cc)

  by_info : (r : Result ExtendedInfo Error)
      → and_then r (λ known. and_then
      (and_then (function_rows known.line_program (function_start found)) (λ rs. Ok (row_over rs x)))
      (λ row. and_then (function_ranges known.inlinees info found)
      (λ rs. Ok (record { line_program = known.line_program; row = row; stack = inline_stack rs x })))) ≡
      (let answer : Result CodeLocation Error = Err e in answer)
      → own r (part_of r) ≡ Some e
  by_info (Err f) is = cc
  by_info (Ok known) is = by_rows known (function_rows known.line_program (function_start found))
      (function_ranges known.inlinees info found) refl refl is

-- where it is answered where code comes from, no part has an error
pub sound : (info : ModuleInfo) (found : FunctionMatch) (x : ℕ) (answered : CodeLocation) (p : CodePart)
    → code_location info found x ≡ Ok answered → own_error info found p ≡ None
sound info found x answered p = by_info (extended_info info) p where
  own : Result ExtendedInfo Error → CodePart → Option Error
  own r (part.ExtendedInfo m) = error_of r
  own r (part.Lines m start) = error_of (and_then r (λ known. function_rows known.line_program (function_start found)))
  own r (part.InlineRanges m start) = error_of (and_then r (λ known. function_ranges known.inlinees info found))

  by_part : (known : ExtendedInfo) (rows : List LineInfo) (ranges : List InlineRange)
      → function_rows known.line_program (function_start found) ≡ Ok rows
      → function_ranges known.inlinees info found ≡ Ok ranges → (p : CodePart) → own (Ok known) p ≡ None
  by_part known rows ranges rows_are ranges_are (part.ExtendedInfo m) = refl
  by_part known rows ranges rows_are ranges_are (part.Lines m start) = rw rows_are refl
  by_part known rows ranges rows_are ranges_are (part.InlineRanges m start) = rw ranges_are refl

  by_rows : (known : ExtendedInfo) (rows : Result (List LineInfo) Error) (ranges : Result (List InlineRange) Error)
      (p : CodePart) → function_rows known.line_program (function_start found) ≡ rows
      → function_ranges known.inlinees info found ≡ ranges
      → and_then (and_then rows (λ rs. Ok (row_over rs x)))
      (λ row. and_then ranges (λ rs. Ok
      (record { line_program = known.line_program; row = row; stack = inline_stack rs x }))) ≡
      (let answer : Result CodeLocation Error = Ok answered in answer)
      → own (Ok known) p ≡ None
  by_rows known (Err f) ranges p rows_are ranges_are is = absurd (cc)
  by_rows known (Ok rows) (Err f) p rows_are ranges_are is = absurd (cc)
  by_rows known (Ok rows) (Ok ranges) p rows_are ranges_are is = by_part known rows ranges rows_are ranges_are p

  by_info : (r : Result ExtendedInfo Error) (p : CodePart)
      → and_then r (λ known. and_then
      (and_then (function_rows known.line_program (function_start found)) (λ rs. Ok (row_over rs x)))
      (λ row. and_then (function_ranges known.inlinees info found)
      (λ rs. Ok (record { line_program = known.line_program; row = row; stack = inline_stack rs x })))) ≡
      (let answer : Result CodeLocation Error = Ok answered in answer)
      → own r p ≡ None
  by_info (Err f) p is = absurd (cc)
  by_info (Ok known) p is = by_rows known (function_rows known.line_program (function_start found))
      (function_ranges known.inlinees info found) p refl refl is
