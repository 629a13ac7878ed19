-- Parts that failed once an answer is given, over a part of the records that knows the module over an address.
use Rattle.std.proofs.Common.{◌≡◌, ◌∙◌, ℕ, Bool, List, [], ◌∷◌, refl, ap}
use Rattle.std.specs.Prelude.{Option, Some, None, Result, Ok, Err, IfOk, IfSome}
use Rattle.std.specs.List.{AllByRecursion}
use Rattle.std.specs.Option.{option_map_or}
use Rattle.std.specs.Result.{result_ok}
use Rattle.pdb_records.specs.Addresses.{internal_offset, rva}
use Rattle.pdb_records.specs.declared.addresses.AddressRange.{AddressRange}
use Rattle.pdb_records.specs.declared.ids.IdIndex.{IdIndex}
use Rattle.pdb_records.specs.declared.modules.ModuleInfo.{ModuleInfo}
use Rattle.pdb_errors.specs.declared.error.Error.{Error}
use Rattle.pdb_records.specs.Provided.{ProviderInfos}
use Rattle.pdb_types.specs.FailedParts.{Parts}
use Rattle.pdb_functions.specs.FunctionMatches.{FunctionMatch, found_procedure, found_global, function_module}
use Rattle.pdb_functions.specs.FunctionMatches.{function_start}
use Rattle.pdb_inline.specs.declared.inline_ranges.InlineRange.{InlineRange}
use Rattle.pdb_frames.specs.CodeLocations.{CodeLocation, code_location}
use Rattle.pdb_function_info.specs.Frames.{failed_by_ids, failed_by_frames, bodies_over}
use Rattle.pdb_function_info.specs.Function.{failed_after_info}
use Rattle.pdb_function_info.specs.NameTexts.{failed_by_function_name, failed_by_id}
use Rattle.pdb_addr2line.specs.ContextInputs.{ContextInputs, global_functions_of}
use Rattle.pdb_addr2line.specs.Lookups.{found_at, failed_after, failed_after_frames, failed_by_frames_of, records_of}
use Rattle.pdb_known.specs.SameModules.{HasSameFront, KnowsModule, KnowsAddress, AreSiteIdsIn}
use Rattle.pdb_known.proofs.AnswerLemmas.{IsBodyIn, each_same, all_among, records_same, stack_in}
use Rattle.pdb_known.proofs.FoundLemmas.{KnowsFunction, IsTypeIn, found_same, function_known}
use Rattle.pdb_known.proofs.NameLemmas.{failed_by_name_same, failed_by_id_same}

-- the ids of inlined bodies are in a set
bodies_in_set : (is_in : ℕ → Bool) (records : Option ModuleInfo) (found : FunctionMatch) (x : ℕ)
    → IfSome records (AreSiteIdsIn is_in) → AllByRecursion (IsBodyIn is_in) (bodies_over records found x)
bodies_in_set is_in None found x sites = tt
bodies_in_set is_in (Some info) found x sites =
    by_origin (code_location info found x) (stack_in is_in info found x sites) where
      by_origin : (from : Result CodeLocation Error) → IfOk from (λ o. AllByRecursion (IsBodyIn is_in) o.stack)
          → AllByRecursion (IsBodyIn is_in) (option_map_or (λ (o : CodeLocation). o.stack) (result_ok from) [])
      by_origin (Ok o) all = all
      by_origin (Err error) all = tt

-- the parts that failed by the names of inlined bodies
failed_by_ids_same : (f g : IdIndex → Parts → Parts) (ranges : List InlineRange) (failed : Parts)
    → AllByRecursion (λ (range : InlineRange). (before : Parts)
    → f range.inlinee before ≡ g range.inlinee before) ranges
    → failed_by_ids f ranges failed ≡ failed_by_ids g ranges failed
failed_by_ids_same f g [] failed same = refl
failed_by_ids_same f g (range ∷ ranges) failed same =
    ap (λ (before : Parts). failed_by_ids f ranges before) (same.0 failed)
    ∙ failed_by_ids_same f g ranges (g range.inlinee failed) same.1

-- a function that was found, of a module that the part knows
module _ {P : Type 0} (info : P → ProviderInfos) (part whole : ContextInputs P) (front : HasSameFront part whole)
    (found : FunctionMatch) (known : KnowsFunction info part whole found) where
  -- the parts that failed by its function info
  failed_after_info_same : (failed : Parts)
      → failed_after_info info part.type_inputs part.address_map (global_functions_of part) found failed
      ≡ failed_after_info info whole.type_inputs whole.address_map (global_functions_of whole) found failed
  failed_after_info_same failed = by_kind found known.knows known.typed
      ∙ rw (front.address_map, front.sections, front.debug_information, front.global_symbols) refl
    where
      by_kind : (f : FunctionMatch) → KnowsModule known.at info part whole (function_module f)
          → IsTypeIn known.at.types f
          → failed_after_info info part.type_inputs part.address_map (global_functions_of part) f failed
          ≡ failed_after_info info whole.type_inputs part.address_map (global_functions_of part) f failed
      by_kind (found_global m f) knows typed = refl
      by_kind (found_procedure m p) knows typed =
          ap (λ (after : Parts). option_map_or (λ start. after) (rva part.address_map p.offset) failed)
          (failed_by_name_same known.at info part.type_inputs whole.type_inputs m knows.entries knows.closed
          (global_functions_of part) p failed typed)

  -- the parts that failed by its name
  failed_by_function_name_same : (failed : Parts)
      → failed_by_function_name info part.type_inputs (global_functions_of part) found failed
      ≡ failed_by_function_name info whole.type_inputs (global_functions_of part) found failed
  failed_by_function_name_same failed = by_kind found known.knows known.typed where
    by_kind : (f : FunctionMatch) → KnowsModule known.at info part whole (function_module f)
        → IsTypeIn known.at.types f
        → failed_by_function_name info part.type_inputs (global_functions_of part) f failed
        ≡ failed_by_function_name info whole.type_inputs (global_functions_of part) f failed
    by_kind (found_global m f) knows typed = refl
    by_kind (found_procedure m p) knows typed =
        failed_by_name_same known.at info part.type_inputs whole.type_inputs m knows.entries knows.closed
        (global_functions_of part) p failed typed

  -- the parts that failed by its frames at an offset
  failed_by_frames_same : (x : ℕ) (failed : Parts)
      → failed_by_frames_of info part x failed found ≡ failed_by_frames_of info whole x failed found
  failed_by_frames_same x failed =
      ap (λ (all : Parts). option_map_or (λ start. all) (rva part.address_map (function_start found)) failed)
      (failed_by_ids_same (failed_by_id info part.type_inputs (function_module found))
      (failed_by_id info whole.type_inputs (function_module found)) (bodies_over (records_of info part found) found x)
      (failed_by_function_name info part.type_inputs (global_functions_of part) found failed)
      (all_among (IsBodyIn known.at.ids) (λ range. (before : Parts)
      → failed_by_id info part.type_inputs (function_module found) range.inlinee before
      ≡ failed_by_id info whole.type_inputs (function_module found) range.inlinee before)
      (λ range here before. failed_by_id_same known.at info part.type_inputs whole.type_inputs (function_module found)
      known.knows.entries known.knows.closed range.inlinee before here)
      (bodies_over (records_of info part found) found x)
      (bodies_in_set known.at.ids (records_of info part found) found x known.knows.sites)))
      ∙ ap (λ (named : Parts). option_map_or (λ start.
      failed_by_ids (failed_by_id info whole.type_inputs (function_module found))
      (bodies_over (records_of info part found) found x) named)
      (rva part.address_map (function_start found)) failed) (failed_by_function_name_same failed)
      ∙ ap (λ (records : Option ModuleInfo). failed_by_frames info whole.type_inputs part.address_map
      (global_functions_of part) records found x failed) (records_same info part whole front found known)
      ∙ rw (front.address_map, front.sections, front.debug_information, front.global_symbols) refl

-- two contexts, of which one knows the module over an address
module _ {P : Type 0} (info : P → ProviderInfos) (part whole : ContextInputs P) (address : ℕ)
    (known : KnowsAddress info part whole address) where
  -- the parts that failed once the function over the address is answered
  pub failed_after_same : (failed : Parts)
      → failed_after info part address failed ≡ failed_after info whole address failed
  failed_after_same failed =
      each_same
      (λ found. failed_after_info info part.type_inputs part.address_map (global_functions_of part) found failed)
      (λ found. failed_after_info info whole.type_inputs whole.address_map (global_functions_of whole) found failed)
      (found_at info part address) (found_at info whole address) failed (found_same info part whole address known)
      (λ found is. failed_after_info_same info part whole known.front found
      (function_known info part whole address known found is) failed)

  -- the parts that failed once the frames over the address are answered
  pub failed_after_frames_same : (failed : Parts)
      → failed_after_frames info part address failed ≡ failed_after_frames info whole address failed
  failed_after_frames_same failed =
      each_same
      (λ place. option_map_or (failed_by_frames_of info part place.offset failed) (found_at info part address) failed)
      (λ place. option_map_or (failed_by_frames_of info whole place.offset failed) (found_at info whole address) failed)
      (internal_offset part.address_map (record { 0 = address }))
      (internal_offset whole.address_map (record { 0 = address })) failed
      (ap (λ (map : List AddressRange). internal_offset map (record { 0 = address })) known.front.address_map)
      (λ place within. each_same (failed_by_frames_of info part place.offset failed)
      (failed_by_frames_of info whole place.offset failed)
      (found_at info part address) (found_at info whole address) failed
      (found_same info part whole address known)
      (λ found is. failed_by_frames_same info part whole known.front found
      (function_known info part whole address known found is) place.offset failed))
