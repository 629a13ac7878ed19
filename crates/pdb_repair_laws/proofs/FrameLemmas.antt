-- Frames over records that were repaired.
use Rattle.std.proofs.Common.{◌≡◌, ℕ, List, refl}
use Rattle.std.proofs.lemmas.Option.{slice_get-map}
use Rattle.std.specs.Prelude.{Option, Some, None, Result, Ok, Err, IsOk, is_none, if◌then◌else◌, option_map}
use Rattle.std.specs.Prelude.{option_and_then, slice_get, unwrap_or}
use Rattle.std.specs.Option.{option_map_or}
use Rattle.std.specs.Result.{result_unwrap_or}
use Rattle.pdb_records.specs.Records.{Records}
use Rattle.pdb_records.specs.Addresses.{internal_offset, rva}
use Rattle.pdb_records.specs.declared.debug_information.Module.{Module}
use Rattle.pdb_records.specs.declared.ids.IdIndex.{IdIndex}
use Rattle.pdb_records.specs.declared.modules.ModuleInfo.{ModuleInfo}
use Rattle.pdb_errors.specs.Outcomes.{and_then}
use Rattle.pdb_functions.specs.FunctionMatches.{FunctionMatch, function_module, function_start}
use Rattle.pdb_functions.specs.ModuleInfoCache.{readable_info}
use Rattle.pdb_function_info.specs.Frames.{Strings, function_frames, code_location_frames}
use Rattle.pdb_addr2line.specs.ContextInputs.{ContextInputs}
use Rattle.pdb_addr2line.specs.Lookups.{frames_at, frames_of, found_at, records_of}
use Rattle.pdb_repairs.specs.Repaired.{ModuleOrFault, repaired, repaired_module, repaired_read}
use Rattle.pdb_repair_laws.proofs.OriginLemmas.{IsAnswer, origin_answered}
use Rattle.pdb_known.specs.Known.{infos_of}

-- an answer is one
is_ok : {A E : Type 0} (result : Result A E) → IsAnswer result → IsOk result
is_ok result (answer, is) = rw is refl

-- what is answered for each value, and where there is none, is answered
each_answered : {A B E : Type 0} (of_value : A → Result B E) (value : Option A) (none : B)
    → ((a : A) → IsAnswer (of_value a)) → IsAnswer (option_map_or of_value value (Ok none))
each_answered of_value None none answered = (none, refl)
each_answered of_value (Some a) none answered = answered a

-- an answer that another follows, which is always answered
then_answered : {A B E : Type 0} (first : Result A E) (next : A → Result B E) → IsAnswer first
    → ((a : A) → IsAnswer (next a)) → IsAnswer (and_then first next)
then_answered first next (a, is) answered = rw is (answered a)

-- what can be read of a module of repaired records is a repaired module
module_repaired : (found : Option ModuleOrFault)
    → (info : Option ModuleInfo) × (option_and_then (λ (info : ModuleInfo).
    if is_none info.symbols.fault then Some info else None)
    (result_unwrap_or (unwrap_or (option_map repaired_read found) (Ok None)) None) ≡ option_map repaired_module info)
module_repaired None = (None, refl)
module_repaired (Some (Ok (Some info))) = (Some info, refl)
module_repaired (Some (Ok None)) = (None, refl)
module_repaired (Some (Err fault)) = (None, refl)

-- the same at a module index of a list
readable_repaired : (whole : Records) (modules : List Module) (index : ℕ)
    → (info : Option ModuleInfo) × (readable_info (infos_of (repaired whole)) modules index
    ≡ option_map repaired_module info)
readable_repaired whole modules index = by_module (slice_get modules index) refl where
  by_module : (found : Option Module) → slice_get modules index ≡ found
      → (info : Option ModuleInfo) × (readable_info (infos_of (repaired whole)) modules index
      ≡ option_map repaired_module info)
  by_module None is = (None, rw is refl)
  by_module (Some m) is =
      let (info, info_is) = module_repaired (slice_get whole.module_infos index) in
      (info, rw (is, slice_get-map repaired_read whole.module_infos index) info_is)

-- the frames of a function are answered by a module that was repaired, or by none
function_answered : (strings : Strings) (name_of : IdIndex → Option (List ℕ)) (name : Option (List ℕ))
    (info : Option ModuleInfo) (found : FunctionMatch) (x : ℕ)
    → IsAnswer (function_frames strings name_of name (option_map repaired_module info) found x)
function_answered strings name_of name None found x = (_, refl)
function_answered strings name_of name (Some info) found x =
    let (from, is) = origin_answered info found x in
    (code_location_frames strings name_of name from, rw is refl)

-- the frames info of what was found is answered
frames_answered : (whole : Records) (inputs : ContextInputs Records) (x : ℕ) (found : FunctionMatch)
    → inputs.provider ≡ repaired whole → IsAnswer (frames_of infos_of inputs x found)
frames_answered whole inputs x found is =
    let (info, info_is) = readable_repaired whole inputs.type_inputs.modules (function_module found) in
    let records_are : records_of infos_of inputs found ≡ option_map repaired_module info = rw is info_is in
    rw records_are (each_answered _ (rva inputs.address_map (function_start found)) None (λ start.
    then_answered _ _ (function_answered _ _ _ info found x) (λ frames. (_, refl))))

-- no frames are refused
pub no_frames_refused : (whole : Records) (inputs : ContextInputs Records) (address : ℕ)
    → inputs.provider ≡ repaired whole → IsOk (frames_at infos_of inputs address)
no_frames_refused whole inputs address is =
    is_ok _ (each_answered _ (internal_offset inputs.address_map (record { 0 = address })) None (λ section_offset.
    each_answered _ (found_at infos_of inputs address) None (λ found.
    frames_answered whole inputs section_offset.offset found is)))
