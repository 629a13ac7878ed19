-- The error of a single part of the records of a function's code.
use Rattle.std.specs.Prelude.{Option, Some, None, Result, Ok, Err}
use Rattle.pdb_records.specs.declared.modules.ModuleInfo.{ModuleInfo}
use Rattle.pdb_errors.specs.declared.error.Error.{Error}
use Rattle.pdb_errors.specs.Outcomes.{and_then}
use Rattle.pdb_functions.specs.FunctionMatches.{FunctionMatch, function_start}
use Rattle.pdb_frames.specs.declared.code_parts.CodePart.{CodePart}
use Rattle.pdb_frames.specs.declared.code_parts.CodePart.TheVariants as part
use Rattle.pdb_frames.specs.ExtendedInfo.{extended_info}
use Rattle.pdb_frames.specs.Lines.{function_rows}
use Rattle.pdb_frames.specs.CodeLocations.{function_ranges}

-- the error of a result
abbrev pub error_of : {A : Type 0} → Result A Error → Option Error
error_of (Ok answer) = None
error_of (Err e) = Some e

-- the error of a single part: of the records of the module's code; and if these are readable, of the function's line
-- rows and of its inline ranges
abbrev pub own_error : ModuleInfo → FunctionMatch → CodePart → Option Error
own_error info found (part.ExtendedInfo m) = error_of (extended_info info)
own_error info found (part.Lines m start) =
    error_of (and_then (extended_info info) (λ known. function_rows known.line_program (function_start found)))
own_error info found (part.InlineRanges m start) =
    error_of (and_then (extended_info info) (λ known. function_ranges known.inlinees info found))
