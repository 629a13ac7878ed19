-- The parts of the records of code that failed.
use Rattle.std.specs.Prelude.{ℕ, Bool, true, false, List, Result, Ok, Err, if◌then◌else◌}
use Rattle.std.specs.declared.cmp.Ordering.{Ordering}
use Rattle.std.specs.declared.cmp.Ordering.TheVariants.{Less, Greater}
use Rattle.std.specs.Ordering.{nat_cmp, ordering_then}
use Rattle.pdb_records.specs.LinePrograms.{Lines}
use Rattle.pdb_records.specs.declared.addresses.PdbInternalSectionOffset.{PdbInternalSectionOffset}
use Rattle.pdb_records.specs.declared.modules.ModuleInfo.{ModuleInfo}
use Rattle.pdb_errors.specs.Outcomes.{and_then}
use Rattle.pdb_errors.specs.PartSet.{has_part, add_part, error_of_part}
use Rattle.pdb_errors.specs.declared.error.Error.{Error}
use Rattle.pdb_errors.specs.declared.error.Error.TheVariants.{ExtendedModuleInfoUnsuccessful}
use Rattle.pdb_errors.specs.declared.error.Error.TheVariants.{ProcedureLinesUnsuccessful}
use Rattle.pdb_errors.specs.declared.error.Error.TheVariants.{ProcedureInlineRangesUnsuccessful}
use Rattle.pdb_functions.specs.FunctionMatches.{FunctionMatch, function_module, function_start}
use Rattle.pdb_functions.specs.Starts.{section_offset_cmp}
use Rattle.pdb_frames.specs.ExtendedInfo.{extended_info}
use Rattle.pdb_frames.specs.Lines.{function_rows}
use Rattle.pdb_frames.specs.declared.code_parts.CodePart.{CodePart}
use Rattle.pdb_frames.specs.declared.code_parts.CodePart.TheVariants as part

-- the order of functions: by module index, and then by the start
abbrev pub function_cmp : ℕ → PdbInternalSectionOffset → ℕ → PdbInternalSectionOffset → Ordering
function_cmp m a n b = ordering_then (nat_cmp m n) (section_offset_cmp a b)

-- the order of parts: extended infos, then lines, then inline ranges
abbrev pub code_part_cmp : CodePart → CodePart → Ordering
code_part_cmp (part.ExtendedInfo m) (part.ExtendedInfo n) = nat_cmp m n
code_part_cmp (part.ExtendedInfo m) (part.Lines n b) = Less
code_part_cmp (part.ExtendedInfo m) (part.InlineRanges n b) = Less
code_part_cmp (part.Lines m a) (part.ExtendedInfo n) = Greater
code_part_cmp (part.Lines m a) (part.Lines n b) = function_cmp m a n b
code_part_cmp (part.Lines m a) (part.InlineRanges n b) = Less
code_part_cmp (part.InlineRanges m a) (part.ExtendedInfo n) = Greater
code_part_cmp (part.InlineRanges m a) (part.Lines n b) = Greater
code_part_cmp (part.InlineRanges m a) (part.InlineRanges n b) = function_cmp m a n b

-- a set of parts, each once and in order
abbrev pub CodeParts : Type 0
CodeParts = List CodePart

-- a part is among those that failed
abbrev pub has_code_failed : CodeParts → CodePart → Bool
has_code_failed failed p = has_part code_part_cmp failed p

-- these parts, and one more
abbrev pub with_code_part : CodeParts → CodePart → CodeParts
with_code_part failed p = add_part code_part_cmp failed p

-- the error of a part that failed before
abbrev pub unsuccessful_code : CodePart → Error
unsuccessful_code (part.ExtendedInfo m) = ExtendedModuleInfoUnsuccessful
unsuccessful_code (part.Lines m start) = ProcedureLinesUnsuccessful
unsuccessful_code (part.InlineRanges m start) = ProcedureInlineRangesUnsuccessful

-- the error for a broken part: that it failed before, if it did, otherwise its own error
abbrev pub code_part_error : CodeParts → CodePart → Error → Error
code_part_error failed p e = error_of_part code_part_cmp unsuccessful_code failed p e

-- whether a result is an error
abbrev pub is_refused : {A E : Type 0} → Result A E → Bool
is_refused (Ok answer) = false
is_refused (Err e) = true

-- the part at fault if the location of a function's code is refused though the records of the module's code are
-- readable: the function's lines, otherwise its inline ranges
abbrev pub blame_after_info : ℕ → PdbInternalSectionOffset → Result Lines Error → CodePart
blame_after_info m start (Ok program) =
    if is_refused (function_rows program start) then part.Lines m start else part.InlineRanges m start
blame_after_info m start (Err e) = part.ExtendedInfo m

-- the part at fault if the location of a function's code is refused: the records of the module's code, then the
-- function's lines, then its inline ranges
abbrev pub part_to_blame : ModuleInfo → FunctionMatch → CodePart
part_to_blame info found =
    let program = and_then (extended_info info) (λ known. Ok known.line_program) in
    blame_after_info (function_module found) (function_start found) program
