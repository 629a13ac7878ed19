-- What lies over two addresses of which no change point lies between, and its frames.
use Rattle.std.proofs.Common.{◌≡◌, ℕ, ◌-◌, ◌^◌, ◌<◌, ◌≤◌, List, [], ◌∷◌, ◌++◌, refl, subst}
use Rattle.std.specs.Prelude.{⊤, Option, Some, None, Result, Ok, Err, IfOk, IfSome, Contains, find, option_and_then}
use Rattle.std.specs.List.{AllByRecursion, flat_map}
use Rattle.std.specs.Option.{option_map_or}
use Rattle.std.proofs.lemmas.List.Elements.{All-weaker, All-contains_itself, recursion_from_All}
use Rattle.pdb_records.specs.Addresses.{numbered_section}
use Rattle.pdb_records.specs.Records.{Records}
use Rattle.pdb_records.specs.declared.addresses.AddressRange.{AddressRange}
use Rattle.pdb_records.specs.declared.addresses.PdbInternalSectionOffset.{PdbInternalSectionOffset}
use Rattle.pdb_records.specs.declared.debug_information.Module.{Module}
use Rattle.pdb_records.specs.declared.modules.ModuleInfo.{ModuleInfo}
use Rattle.pdb_records.specs.Provided.{ProviderInfos}
use Rattle.pdb_errors.specs.declared.error.Error.{Error}
use Rattle.pdb_functions.specs.FunctionMatches.{FunctionMatch, found_procedure, found_global, function_over}
use Rattle.pdb_functions.specs.FunctionMatches.{function_module}
use Rattle.pdb_functions.specs.ModuleInfoCache.{readable_info}
use Rattle.pdb_functions.specs.Procedures.{ModuleProcedure}
use Rattle.pdb_functions.specs.Spans.{contribution_covers}
use Rattle.pdb_frames.specs.ExtendedInfo.{ExtendedInfo, extended_info}
use Rattle.pdb_frames.specs.Frame.{FramesInfo}
use Rattle.pdb_frames.specs.CodeLocations.{code_location}
use Rattle.pdb_addr2line.specs.ContextInputs.{ContextInputs, contributions_of, global_functions_of}
use Rattle.pdb_addr2line.specs.Lookups.{contribution_at, found_at, frames_at, frames_of, records_of}
use Rattle.pdb_known.specs.Known.{infos_of}
use Rattle.pdb_change_points.specs.ChangePoints.{change_points, NoneBetween}
use Rattle.pdb_change_points.specs.ModulePoints.{answer_points, ranges_or_none}
use Rattle.pdb_change_points.specs.Points.{map_points, contribution_points, global_points, entry_points, range_points}
use Rattle.pdb_change_points.specs.Points.{IsOutside}
use Rattle.pdb_change_points.proofs.AddressLemmas.{same_by_section}
use Rattle.pdb_change_points.proofs.FoundLemmas.{StartsIn, over_starts_in}
use Rattle.pdb_change_points.proofs.FrameLemmas.{info_same}
use Rattle.pdb_change_points.proofs.FunctionLemmas.{covering_same, over_same}
use Rattle.pdb_change_points.proofs.ListLemmas.{all_parts}
use Rattle.pdb_change_points.proofs.ModuleLemmas.{answer_outside, AreLinesOutside, IsReadOutside}
use Rattle.pdb_change_points.proofs.ModuleLemmas.{module_procedures_outside, module_ranges_outside}
use Rattle.pdb_change_points.proofs.ModuleLemmas.{module_lines_outside}
use Rattle.pdb_change_points.proofs.OriginLemmas.{origin_same}

-- what is answered of one value in two ways
each_alike : {A B : Type 0} (f g : A → B) (value other : Option A) (none : B) → value ≡ other
    → ((a : A) → value ≡ Some a → f a ≡ g a) → option_map_or f value none ≡ option_map_or g other none
each_alike {A = A} f g value other none e alike =
    subst (λ o. option_map_or f value none ≡ option_map_or g o none) e (by_value value alike) where
      by_value : (o : Option A) → ((a : A) → o ≡ Some a → f a ≡ g a)
          → option_map_or f o none ≡ option_map_or g o none
      by_value None alike = refl
      by_value (Some a) alike = alike a refl

-- two addresses in the range of a section
module _ (sections : List AddressRange) (n : ℕ) (range : AddressRange)
    (is : numbered_section n sections ≡ Some range) (x y : ℕ) (from : range.virtual_address ≤ x) (up : x ≤ y)
    (fits : y < 2 ^ 32) where
  -- where the code of a function comes from is the same at both, by the records of its module
  code_same : (readable : Option ModuleInfo) (found : FunctionMatch) → AreLinesOutside x y sections readable
      → StartsIn n (λ m p. IsReadOutside x y sections readable p) found
      → IfSome readable (λ info. code_location info found (x - range.virtual_address)
      ≡ code_location info found (y - range.virtual_address))
  code_same None found lines starts = tt
  code_same (Some info) (found_global m f) lines starts =
      origin_same sections n range is x y from up fits info (found_global m f) starts
      (by_known (extended_info info) lines)
    where
      by_known : (known : Result ExtendedInfo Error)
          → IfOk known (λ k. AllByRecursion (IsOutside x y) (entry_points sections k.line_program.entries))
          → IfOk known (λ k. AllByRecursion (IsOutside x y) (entry_points sections k.line_program.entries) × ⊤)
      by_known (Err e) all = tt
      by_known (Ok k) all = (all, tt)
  code_same (Some info) (found_procedure m p) lines starts =
      origin_same sections n range is x y from up fits info (found_procedure m p) starts.0
      (by_known (extended_info info) lines starts.1)
    where
      by_known : (known : Result ExtendedInfo Error)
          → IfOk known (λ k. AllByRecursion (IsOutside x y) (entry_points sections k.line_program.entries))
          → IfOk known (λ k. AllByRecursion (IsOutside x y)
          (range_points sections p.offset.section (ranges_or_none k.inlinees info p)))
          → IfOk known (λ k. AllByRecursion (IsOutside x y) (entry_points sections k.line_program.entries)
          × AllByRecursion (IsOutside x y) (range_points sections n (ranges_or_none k.inlinees info p)))
      by_known (Err e) all ranges = tt
      by_known (Ok k) all ranges = (
        all,
        subst (λ s. AllByRecursion (IsOutside x y) (range_points sections s (ranges_or_none k.inlinees info p)))
            starts.0 ranges,
      )

-- a context, and two addresses of which no change point lies between
module _ (s : ContextInputs Records) (x y : ℕ) (up : x ≤ y) (fits : y < 2 ^ 32)
    (none : NoneBetween (change_points s) x y) where
  -- what the records say of each module
  abbrev infos : ProviderInfos
  infos = infos_of s.provider

  -- the list of modules
  abbrev modules : List Module
  modules = s.type_inputs.modules

  -- the change points lie outside, in four parts
  all_outside : AllByRecursion (IsOutside x y) (change_points s)
  all_outside =
      recursion_from_All (IsOutside x y) (change_points s)
      (All-weaker (Contains (change_points s)) (IsOutside x y) none (change_points s)
      (All-contains_itself (change_points s)))

  -- those of the modules
  modules_outside : AllByRecursion (IsOutside x y) (flat_map (answer_points s.address_map) s.provider.module_infos)
  modules_outside =
      (all_parts (IsOutside x y)
      (0 ∷ [] ++ map_points s.address_map ++ contribution_points s.address_map (contributions_of s)
      ++ global_points s.address_map (global_functions_of s))
      (flat_map (answer_points s.address_map) s.provider.module_infos) all_outside).1

  -- those of all but the modules
  front_outside : AllByRecursion (IsOutside x y)
      (0 ∷ [] ++ map_points s.address_map ++ contribution_points s.address_map (contributions_of s)
      ++ global_points s.address_map (global_functions_of s))
  front_outside =
      (all_parts (IsOutside x y)
      (0 ∷ [] ++ map_points s.address_map ++ contribution_points s.address_map (contributions_of s)
      ++ global_points s.address_map (global_functions_of s))
      (flat_map (answer_points s.address_map) s.provider.module_infos) all_outside).0

  -- those of the global functions
  globals_outside : AllByRecursion (IsOutside x y) (global_points s.address_map (global_functions_of s))
  globals_outside =
      (all_parts (IsOutside x y)
      (0 ∷ [] ++ map_points s.address_map ++ contribution_points s.address_map (contributions_of s))
      (global_points s.address_map (global_functions_of s)) front_outside).1

  -- those of the address map and of the contributions
  spans_outside : AllByRecursion (IsOutside x y) (map_points s.address_map)
      × AllByRecursion (IsOutside x y) (contribution_points s.address_map (contributions_of s))
  spans_outside =
      let spans = (all_parts (IsOutside x y)
      (0 ∷ [] ++ map_points s.address_map ++ contribution_points s.address_map (contributions_of s))
      (global_points s.address_map (global_functions_of s)) front_outside).0 in
      let parts = all_parts (IsOutside x y) (0 ∷ [] ++ map_points s.address_map)
      (contribution_points s.address_map (contributions_of s)) spans in
      ((all_parts (IsOutside x y) (0 ∷ []) (map_points s.address_map) parts.0).1, parts.1)

  -- those of what the records say of each module
  module_outside : (index : ℕ) (named : Module)
      → AllByRecursion (IsOutside x y) (answer_points s.address_map (infos index named))
  module_outside index named = answer_outside x y s.address_map s.provider.module_infos modules_outside index

  -- what lies over a section offset
  abbrev over : PdbInternalSectionOffset → Option FunctionMatch
  over section_offset =
      function_over infos modules (contributions_of s) (global_functions_of s) section_offset

  -- what lies over both, where they lie in one section
  over_both : (n : ℕ) (range : AddressRange) → numbered_section n s.address_map ≡ Some range
      → range.virtual_address ≤ x
      → over (record { section = n; offset = x - range.virtual_address })
      ≡ over (record { section = n; offset = y - range.virtual_address })
  over_both n range is from =
      over_same s.address_map n range is x y from up fits infos modules (contributions_of s)
      (global_functions_of s) spans_outside.1 globals_outside
      (module_procedures_outside x y s.address_map infos modules module_outside)

  -- what lies over both addresses is the same
  pub found_same : found_at infos_of s x ≡ found_at infos_of s y
  found_same =
      same_by_section s.address_map x y up fits spans_outside.0 (option_and_then over) (option_and_then over) refl
      over_both

  -- the contribution over both addresses is the same
  pub contribution_same : contribution_at s x ≡ contribution_at s y
  contribution_same =
      same_by_section s.address_map x y up fits spans_outside.0
      (option_and_then (λ o. find (contribution_covers o) (contributions_of s)))
      (option_and_then (λ o. find (contribution_covers o) (contributions_of s))) refl
      (λ n range is from. covering_same s.address_map n range is x y from up fits (contributions_of s) spans_outside.1)

  -- the frames of what lies over a section offset, at it
  abbrev frames_over : Option PdbInternalSectionOffset → Result (Option FramesInfo) Error
  frames_over o =
      option_map_or (λ (section_offset : PdbInternalSectionOffset).
      option_map_or (frames_of infos_of s section_offset.offset) (option_and_then over o) (Ok None)) o (Ok None)

  -- of a function that lies over both the frames are the same, where they lie in one section
  frames_both : (n : ℕ) (range : AddressRange) → numbered_section n s.address_map ≡ Some range
      → range.virtual_address ≤ x → (found : FunctionMatch)
      → over (record { section = n; offset = x - range.virtual_address }) ≡ Some found
      → frames_of infos_of s (x - range.virtual_address) found ≡ frames_of infos_of s (y - range.virtual_address) found
  frames_both n range is from found found_is =
      info_same infos_of s.type_inputs s.strings s.address_map (global_functions_of s)
      (records_of infos_of s found) found (x - range.virtual_address) (y - range.virtual_address)
      (code_same s.address_map n range is x y from up fits (readable_info infos modules (function_module found)) found
      (module_lines_outside x y s.address_map infos modules module_outside (function_module found))
      (by_kind found (subst (λ (o : Option FunctionMatch). IfSome o (StartsIn n IsRead)) found_is
      (over_starts_in infos modules IsRead
      (module_ranges_outside x y s.address_map infos modules module_outside) (global_functions_of s)
      (record { section = n; offset = x - range.virtual_address }) (contributions_of s)))))
    where
      IsRead : ℕ → ModuleProcedure → Type 0
      IsRead m p = IsReadOutside x y s.address_map (readable_info infos modules m) p

      by_kind : (f : FunctionMatch) → StartsIn n IsRead f
          → StartsIn n (λ m p. IsReadOutside x y s.address_map (readable_info infos modules (function_module f)) p) f
      by_kind (found_global m f) starts = starts
      by_kind (found_procedure m p) starts = starts

  -- the frames at both addresses are the same
  pub frames_same : frames_at infos_of s x ≡ frames_at infos_of s y
  frames_same =
      same_by_section s.address_map x y up fits spans_outside.0 frames_over frames_over refl
      (λ n range is from. each_alike (frames_of infos_of s (x - range.virtual_address))
      (frames_of infos_of s (y - range.virtual_address))
      (over (record { section = n; offset = x - range.virtual_address }))
      (over (record { section = n; offset = y - range.virtual_address })) (Ok None)
      (over_both n range is from) (frames_both n range is from))
