-- Lookups of a context.
use Rattle.std.specs.Prelude.{ℕ, Option, Some, None, Result, Ok, Err, find, option_map, option_and_then}
use Rattle.std.specs.Option.{option_map_or}
use Rattle.pdb_records.specs.Addresses.{internal_offset}
use Rattle.pdb_records.specs.declared.addresses.PdbInternalSectionOffset.{PdbInternalSectionOffset}
use Rattle.pdb_records.specs.declared.modules.ModuleInfo.{ModuleInfo}
use Rattle.pdb_types.specs.FailedParts.{Parts}
use Rattle.pdb_records.specs.Provided.{ProviderInfos}
use Rattle.pdb_functions.specs.declared.merged_contributions.ModuleSectionContribution.{ModuleSectionContribution}
use Rattle.pdb_functions.specs.Spans.{contribution_covers}
use Rattle.pdb_functions.specs.FunctionMatches.{FunctionMatch, function_over, function_module}
use Rattle.pdb_functions.specs.ModuleInfoCache.{readable_info}
use Rattle.pdb_errors.specs.declared.error.Error.{Error}
use Rattle.pdb_frames.specs.CodeParts.{CodeParts, part_to_blame, code_part_error, with_code_part}
use Rattle.pdb_frames.specs.Frame.{FramesInfo}
use Rattle.pdb_frames.specs.declared.code_parts.CodePart.{CodePart}
use Rattle.pdb_function_info.specs.Frames.{info_of_frames, failed_by_frames}
use Rattle.pdb_function_info.specs.Function.{FunctionInfo, info_of, failed_after_info}
use Rattle.pdb_addr2line.specs.ContextInputs.{ContextInputs, ContextState, contributions_of, global_functions_of}

-- the contribution that covers an address
abbrev pub contribution_at : {P : Type 0} → ContextInputs P → ℕ → Option ModuleSectionContribution
contribution_at s address =
    let over = λ (section_offset : PdbInternalSectionOffset). find (contribution_covers section_offset)
    (contributions_of s) in
    option_and_then over (internal_offset s.address_map (record { 0 = address }))

-- the function at an address, by a plain scan of the records
abbrev pub found_at : {P : Type 0} → (P → ProviderInfos) → ContextInputs P → ℕ → Option FunctionMatch
found_at info s address =
    let found = function_over (info s.provider) s.type_inputs.modules (contributions_of s) (global_functions_of s) in
    option_and_then found (internal_offset s.address_map (record { 0 = address }))

-- the function info at an address
abbrev pub function_at : {P : Type 0} → (P → ProviderInfos) → ContextInputs P → ℕ → Option FunctionInfo
function_at info s address =
    option_and_then (info_of info s.type_inputs s.address_map (global_functions_of s)) (found_at info s address)

-- the parts that have failed after this lookup, from those that failed before
abbrev pub failed_after : {P : Type 0} → (P → ProviderInfos) → ContextInputs P → ℕ → Parts → Parts
failed_after info s address failed =
    let failed_by = λ (found : FunctionMatch).
    failed_after_info info s.type_inputs s.address_map (global_functions_of s) found failed in
    option_map_or failed_by (found_at info s address) failed

-- the records of the module that a function was found in, if there are any that can be read
abbrev pub records_of : {P : Type 0} → (P → ProviderInfos) → ContextInputs P → FunctionMatch → Option ModuleInfo
records_of info s found = readable_info (info s.provider) s.type_inputs.modules (function_module found)

-- the frames info of a function that was found, at an offset
abbrev pub frames_of : {P : Type 0} → (P → ProviderInfos) → ContextInputs P → ℕ → FunctionMatch
    → Result (Option FramesInfo) Error
frames_of info s x found =
    info_of_frames info s.type_inputs s.strings s.address_map (global_functions_of s) (records_of info s found) found x

-- the frames info at an address, by the address's offset in its section
abbrev pub frames_at : {P : Type 0} → (P → ProviderInfos) → ContextInputs P → ℕ → Result (Option FramesInfo) Error
frames_at info s address =
    let at_section_offset = λ (section_offset : PdbInternalSectionOffset).
    option_map_or (frames_of info s section_offset.offset) (found_at info s address) (Ok None) in
    option_map_or at_section_offset (internal_offset s.address_map (record { 0 = address })) (Ok None)

-- the parts that have failed after a function's frames at an offset
abbrev pub failed_by_frames_of : {P : Type 0} → (P → ProviderInfos) → ContextInputs P → ℕ → Parts → FunctionMatch
    → Parts
failed_by_frames_of info s x failed found =
    failed_by_frames info s.type_inputs s.address_map (global_functions_of s) (records_of info s found) found x failed

-- the parts that have failed after the frames at an address, from those that failed before
abbrev pub failed_after_frames : {P : Type 0} → (P → ProviderInfos) → ContextInputs P → ℕ → Parts → Parts
failed_after_frames info s address failed =
    let at_section_offset = λ (section_offset : PdbInternalSectionOffset).
    option_map_or (failed_by_frames_of info s section_offset.offset failed) (found_at info s address) failed in
    option_map_or at_section_offset (internal_offset s.address_map (record { 0 = address })) failed

-- the part at fault if the frames of a function are refused, by the records of its module
abbrev pub blamed_for : {P : Type 0} → (P → ProviderInfos) → ContextInputs P → FunctionMatch → Option CodePart
blamed_for info s found = option_map (λ records. part_to_blame records found) (records_of info s found)

-- the part at fault if the frames at an address are refused
abbrev pub blamed_at : {P : Type 0} → (P → ProviderInfos) → ContextInputs P → ℕ → Option CodePart
blamed_at info s address = option_and_then (blamed_for info s) (found_at info s address)

-- the error for a part at fault: that it failed before, if it did, otherwise its own error
abbrev pub answered_error : CodeParts → Option CodePart → Error → Error
answered_error failed (Some part) e = code_part_error failed part e
answered_error failed None e = e

-- these parts, and the part at fault, if there is one
abbrev pub with_blamed : CodeParts → Option CodePart → CodeParts
with_blamed failed (Some part) = with_code_part failed part
with_blamed failed None = failed

-- a result whose error is replaced by that of the part at fault
abbrev pub answered_refusal : {A : Type 0} → CodeParts → Option CodePart → Result A Error → Result A Error
answered_refusal failed part (Ok answer) = Ok answer
answered_refusal failed part (Err e) = Err (answered_error failed part e)

-- the parts that have failed after a result: with the part at fault if the result is an error
abbrev pub failed_by_refusal : {A : Type 0} → CodeParts → Option CodePart → Result A Error → CodeParts
failed_by_refusal failed part (Ok answer) = failed
failed_by_refusal failed part (Err e) = with_blamed failed part

-- the answer for the frames at an address: those by the records, or the error of a part of the records of code that
-- failed before
abbrev pub frames_answered : {P : Type 0} → (P → ProviderInfos) → ContextState P → ℕ
    → Result (Option FramesInfo) Error
frames_answered info c address =
    answered_refusal c.code_failed (blamed_at info c.inputs address) (frames_at info c.inputs address)

-- the parts of the records of code that have failed after this answer
abbrev pub code_failed_after : {P : Type 0} → (P → ProviderInfos) → ContextState P → ℕ → CodeParts
code_failed_after info c address =
    failed_by_refusal c.code_failed (blamed_at info c.inputs address) (frames_at info c.inputs address)
