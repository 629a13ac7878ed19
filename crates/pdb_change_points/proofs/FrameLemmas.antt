-- The frames of a function at two offsets at which its code comes from the same place.
use Rattle.std.proofs.Common.{◌≡◌, ℕ, List, refl, ap}
use Rattle.std.specs.Prelude.{Option, Some, None, Result, Ok, IfSome, option_and_then}
use Rattle.std.specs.Option.{option_map_or}
use Rattle.pdb_records.specs.Addresses.{rva}
use Rattle.pdb_records.specs.declared.addresses.AddressRange.{AddressRange}
use Rattle.pdb_records.specs.declared.modules.ModuleInfo.{ModuleInfo}
use Rattle.pdb_errors.specs.Outcomes.{and_then}
use Rattle.pdb_records.specs.Provided.{ProviderInfos}
use Rattle.pdb_errors.specs.declared.error.Error.{Error}
use Rattle.pdb_types.specs.TypeInputs.{TypeInputs}
use Rattle.pdb_functions.specs.FunctionMatches.{FunctionMatch, function_module, function_start}
use Rattle.pdb_functions.specs.GlobalFunctions.{GlobalFunction}
use Rattle.pdb_frames.specs.Frame.{FramesInfo}
use Rattle.pdb_frames.specs.CodeLocations.{CodeLocation, code_location}
use Rattle.pdb_function_info.specs.Frames.{Strings, function_size, info_of_frames, code_location_frames}
use Rattle.pdb_function_info.specs.Function.{sum_in_32_bits}
use Rattle.pdb_function_info.specs.NameTexts.{function_name, id_name}

-- the frames info of a function whose code comes from there
abbrev info_from : {P : Type 0} → (P → ProviderInfos) → TypeInputs P → Strings → List AddressRange
    → List GlobalFunction → FunctionMatch → Result CodeLocation Error → Result (Option FramesInfo) Error
info_from info type_inputs strings sections globals found from =
    option_map_or (λ start.
    and_then (and_then from (λ o. Ok (code_location_frames strings
    (id_name info type_inputs (function_module found)) (function_name info type_inputs globals found) o))) (λ frames.
    Ok (Some (record {
      start_rva = start.0;
      end_rva = option_and_then (sum_in_32_bits start.0) (function_size globals found);
      frames = frames;
    })))) (rva sections (function_start found)) (Ok None)

-- the frames info is the same at both offsets
pub info_same : {P : Type 0} (info : P → ProviderInfos) (type_inputs : TypeInputs P) (strings : Strings)
    (sections : List AddressRange) (globals : List GlobalFunction) (records : Option ModuleInfo)
    (found : FunctionMatch) (a b : ℕ) → IfSome records (λ i. code_location i found a ≡ code_location i found b)
    → info_of_frames info type_inputs strings sections globals records found a
    ≡ info_of_frames info type_inputs strings sections globals records found b
info_same info type_inputs strings sections globals None found a b same = refl
info_same info type_inputs strings sections globals (Some i) found a b same =
    ap (info_from info type_inputs strings sections globals found) same
