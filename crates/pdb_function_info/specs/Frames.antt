-- The frames of a function at an offset in its code.
use Rattle.std.specs.Prelude.{◌≢◌, ℕ, ◌-◌, List, [], ◌∷◌, ◌++◌, Option, Some, None, Result}
use Rattle.std.specs.Prelude.{Ok, Err, map, reverse, fold, option_map, option_and_then}
use Rattle.std.specs.Option.{option_map_or}
use Rattle.std.specs.Result.{result_ok}
use Rattle.pdb_records.specs.Addresses.{rva}
use Rattle.pdb_records.specs.LinePrograms.{Lines}
use Rattle.pdb_records.specs.declared.addresses.AddressRange.{AddressRange}
use Rattle.pdb_records.specs.declared.ids.IdIndex.{IdIndex}
use Rattle.pdb_records.specs.declared.lines.LineInfo.{LineInfo}
use Rattle.pdb_records.specs.declared.modules.ModuleInfo.{ModuleInfo}
use Rattle.pdb_records.specs.declared.strings.StringRef.{StringRef}
use Rattle.pdb_types.specs.FailedParts.{Parts}
use Rattle.pdb_errors.specs.Outcomes.{and_then}
use Rattle.pdb_types.specs.TypeInputs.{TypeInputs}
use Rattle.pdb_records.specs.Provided.{ProviderInfos}
use Rattle.pdb_errors.specs.declared.error.Error.{Error}
use Rattle.pdb_errors.specs.declared.error.Error.TheVariants.{OutOfMemory}
use Rattle.pdb_functions.specs.GlobalFunctions.{GlobalFunction}
use Rattle.pdb_functions.specs.FunctionMatches.{FunctionMatch, found_procedure, found_global, next_global}
use Rattle.pdb_inline.specs.declared.inline_ranges.InlineRange.{InlineRange}
use Rattle.pdb_frames.specs.Frame.{FrameInfo, FramesInfo}
use Rattle.pdb_function_info.specs.Function.{sum_in_32_bits}
use Rattle.pdb_frames.specs.Lines.{file_name}
use Rattle.pdb_function_info.specs.NameTexts.{function_name, failed_by_function_name, id_name, failed_by_id}
use Rattle.pdb_frames.specs.CodeLocations.{CodeLocation, code_location}
use Rattle.pdb_functions.specs.FunctionMatches.{function_module, function_start}

-- the string table of a program, if it has one
abbrev pub Strings : Type 0
Strings = Option (List (StringRef × List ℕ))

-- the frame of a function itself: its name, and the file and the line of the row at the offset, if there is one
abbrev pub own_frame : Strings → Option (List ℕ) → Lines → Option LineInfo → FrameInfo
own_frame strings name program row = record {
  function = name;
  file = option_and_then (λ r. file_name strings program r.file_index) row;
  line = option_map (λ r. r.line_start) row;
}

-- the frame of an inlined body: its name, and the file and the line of its range
abbrev pub inlined_frame : Strings → Lines → Option (List ℕ) → InlineRange → FrameInfo
inlined_frame strings program name range = record {
  function = name;
  file = option_and_then (file_name strings program) range.file_index;
  line = range.line_start;
}

-- the frames of inlined bodies, each named by its id
abbrev pub inlined_frames : Strings → Lines → (IdIndex → Option (List ℕ)) → List InlineRange → List FrameInfo
inlined_frames strings program name_of ranges =
    map (λ range. inlined_frame strings program (name_of range.inlinee) range) ranges

-- the frames of code with this location, from inside to outside: those of the inlined bodies, and last that of the
-- function itself
abbrev pub code_location_frames : Strings → (IdIndex → Option (List ℕ)) → Option (List ℕ) → CodeLocation
    → List FrameInfo
code_location_frames strings name_of name o =
    reverse (inlined_frames strings o.line_program name_of o.stack)
    ++ own_frame strings name o.line_program o.row ∷ []

-- the frames of a function with this name at an offset. Without records of its module, they are only the function's
-- frame, without a file and a line. Otherwise they are those of the code's location, or its error
abbrev pub function_frames : Strings → (IdIndex → Option (List ℕ)) → Option (List ℕ) → Option ModuleInfo
    → FunctionMatch → ℕ → Result (List FrameInfo) Error
function_frames strings name_of name None found x =
    Ok (record { function = name; file = None; line = None } ∷ [])
function_frames strings name_of name (Some info) found x =
    and_then (code_location info found x) (λ o. Ok (code_location_frames strings name_of name o))

-- the size of a function in bytes, if it is known; a global function ends at the next one of its section, if there is
-- one
abbrev pub function_size : List GlobalFunction → FunctionMatch → Option ℕ
function_size globals (found_procedure m p) = Some p.len
function_size globals (found_global m f) =
    option_map (λ next. next.start.offset - f.start.offset) (next_global f.start globals)

-- the frames info of a function at an offset of its section: its start and its end, as far as that is known and fits in
-- 32 bits, and the frames. A function without an address has none
abbrev pub info_of_frames : {P : Type 0} → (P → ProviderInfos) → TypeInputs P → Strings → List AddressRange
    → List GlobalFunction → Option ModuleInfo → FunctionMatch → ℕ → Result (Option FramesInfo) Error
info_of_frames info type_inputs strings sections globals records found x =
    let name = function_name info type_inputs globals found in
    let name_of = id_name info type_inputs (function_module found) in
    option_map_or (λ start.
    and_then (function_frames strings name_of name records found x) (λ frames.
    Ok (Some (record {
      start_rva = start.0;
      end_rva = option_and_then (sum_in_32_bits start.0) (function_size globals found);
      frames = frames;
    })))) (rva sections (function_start found)) (Ok None)

-- the parts that have failed after inlined bodies were named, the outermost first
abbrev pub failed_by_ids : (IdIndex → Parts → Parts) → List InlineRange → Parts → Parts
failed_by_ids failed_by ranges failed = fold (λ before range. failed_by range.inlinee before) failed ranges

-- the inlined bodies at an offset of a function; none without records of its module, or if the code's location is an
-- error
abbrev pub bodies_over : Option ModuleInfo → FunctionMatch → ℕ → List InlineRange
bodies_over records found x =
    option_map_or (λ o. o.stack) (option_and_then (λ info. result_ok (code_location info found x)) records) []

-- the parts that have failed after a function's frames: those by its own name, then those by the names of the inlined
-- bodies
abbrev pub failed_by_frames : {P : Type 0} → (P → ProviderInfos) → TypeInputs P → List AddressRange
    → List GlobalFunction
    → Option ModuleInfo → FunctionMatch → ℕ → Parts → Parts
failed_by_frames info type_inputs sections globals records found x failed =
    let failed_by = failed_by_id info type_inputs (function_module found) in
    let named = failed_by_function_name info type_inputs globals found failed in
    let all_named = failed_by_ids failed_by (bodies_over records found x) named in
    option_map_or (λ start. all_named) (rva sections (function_start found)) failed

-- a fact about each result except an allocation failure
abbrev pub ButForMemory : {A : Type 0} → Result A Error → Type 0 → Type 0
ButForMemory (Ok answer) fact = fact
ButForMemory (Err error) fact = error ≢ OutOfMemory → fact
