-- The frames info of a function that has an address.
use Rattle.std.proofs.Common.{◌≡◌, ℕ, List, sym, refl}
use Rattle.std.specs.Prelude.{Option, Some, None, Ok, Err, option_map, option_and_then}
use Rattle.std.specs.Option.{option_map_or}
use Rattle.pdb_records.specs.Addresses.{rva}
use Rattle.pdb_records.specs.declared.addresses.AddressRange.{AddressRange}
use Rattle.pdb_records.specs.declared.addresses.Rva.{Rva}
use Rattle.pdb_records.specs.declared.modules.ModuleInfo.{ModuleInfo}
use Rattle.pdb_types.specs.FailedParts.{Parts}
use Rattle.pdb_types.specs.TypeInputs.{TypeInputs}
use Rattle.pdb_records.specs.Provided.{ProviderInfos}
use Rattle.pdb_errors.specs.declared.error.Error.{Error}
use Rattle.pdb_functions.specs.GlobalFunctions.{GlobalFunction}
use Rattle.pdb_functions.specs.FunctionMatches.{FunctionMatch, function_module, function_start}
use Rattle.pdb_function_info.specs.Function.{sum_in_32_bits}
use Rattle.pdb_function_info.specs.declared.frames.FunctionAddresses.{FunctionAddresses}
use Rattle.pdb_function_info.specs.Frames.{Strings, function_frames, function_size, info_of_frames, failed_by_ids}
use Rattle.pdb_function_info.specs.Frames.{bodies_over, failed_by_frames}
use Rattle.pdb_function_info.specs.NameTexts.{function_name, failed_by_function_name, id_name, failed_by_id}

-- what follows from a start, where there is one
with_start : {S C B : Type 0} (convert : S → C) (here : C) (start : Option S) (next : S → B) (none answer : B)
    → option_map convert start ≡ Some here → ((s : S) → next s ≡ answer) → option_map_or next start none ≡ answer
with_start convert here None next none answer is same = absurd cc
with_start convert here (Some s) next none answer is same = same s

-- where a function with this start begins and ends
abbrev pub addresses : List GlobalFunction → FunctionMatch → Rva → FunctionAddresses
addresses globals found start =
    record { start_rva = start.0; end_rva = option_and_then (sum_in_32_bits start.0) (function_size globals found) }

-- where a function has an address and its frames are refused, so is its frames info
pub frames_refused : {P : Type 0} (info : P → ProviderInfos) (type_inputs : TypeInputs P) (strings : Strings)
    (sections : List AddressRange)
    (globals : List GlobalFunction) (records : Option ModuleInfo) (found : FunctionMatch) (x : ℕ) (e : Error)
    (here : FunctionAddresses) → option_map (addresses globals found) (rva sections (function_start found)) ≡ Some here
    → function_frames strings (id_name info type_inputs (function_module found))
    (function_name info type_inputs globals found) records found x ≡ Err e
    → info_of_frames info type_inputs strings sections globals records found x ≡ Err e
frames_refused info type_inputs strings sections globals records found x e here is refused =
    with_start (addresses globals found) here (rva sections (function_start found)) _ (Ok None) (Err e) is
    (λ start. rw refused refl)

-- where a function has an address, the parts that failed are those by all names
pub all_named : {P : Type 0} (info : P → ProviderInfos) (type_inputs : TypeInputs P) (sections : List AddressRange)
    (globals : List GlobalFunction) (records : Option ModuleInfo) (found : FunctionMatch) (x : ℕ) (failed after : Parts)
    (here : FunctionAddresses) → option_map (addresses globals found) (rva sections (function_start found)) ≡ Some here
    → after ≡ failed_by_ids (failed_by_id info type_inputs (function_module found)) (bodies_over records found x)
    (failed_by_function_name info type_inputs globals found failed)
    → after ≡ failed_by_frames info type_inputs sections globals records found x failed
all_named info type_inputs sections globals records found x failed after here is named =
    sym (with_start (addresses globals found) here (rva sections (function_start found))
    (λ start. failed_by_ids (failed_by_id info type_inputs (function_module found)) (bodies_over records found x)
    (failed_by_function_name info type_inputs globals found failed)) failed after is (λ start. sym named))
