-- The change points of the records of each module, by its module index.
use Rattle.std.proofs.Common.{◌≡◌, ℕ, zero, suc, Bool, true, false, cond, List, [], ◌∷◌, refl}
use Rattle.std.specs.Prelude.{Option, Some, None, Result, Ok, Err, IfOk, IfSome, is_none, slice_get, unwrap_or}
use Rattle.std.specs.Prelude.{option_and_then}
use Rattle.std.specs.List.{AllByRecursion, flat_map}
use Rattle.std.specs.Result.{result_unwrap_or}
use Rattle.pdb_records.specs.declared.addresses.AddressRange.{AddressRange}
use Rattle.pdb_records.specs.declared.debug_information.Module.{Module}
use Rattle.pdb_records.specs.declared.error.StreamError.{StreamError}
use Rattle.pdb_records.specs.declared.ids.IdIndex.{IdIndex}
use Rattle.pdb_records.specs.declared.modules.ModuleInfo.{ModuleInfo}
use Rattle.pdb_records.specs.Provided.{ProviderInfos}
use Rattle.pdb_errors.specs.declared.error.Error.{Error}
use Rattle.pdb_functions.specs.FunctionMatches.{procedures_of_module}
use Rattle.pdb_functions.specs.ModuleInfoCache.{readable_info}
use Rattle.pdb_functions.specs.Procedures.{ModuleProcedure, info_procedures, provided_procedures}
use Rattle.pdb_frames.specs.ExtendedInfo.{ExtendedInfo, extended_info}
use Rattle.pdb_change_points.specs.ModulePoints.{ranges_or_none, inlined_points, code_points, answer_points}
use Rattle.pdb_change_points.specs.Points.{procedure_points, entry_points, range_points, IsOutside}
use Rattle.pdb_change_points.proofs.ListLemmas.{all_parts, all_weaker}

-- what records hold of the module at a module index; past the list there is nothing
abbrev pub answer_at : List (Result (Option ModuleInfo) StreamError) → ℕ → Result (Option ModuleInfo) StreamError
answer_at answers index = unwrap_or (slice_get answers index) (Ok None)

-- what holds of each holds of all
all_each : {A : Type 0} (P : A → Type 0) → ((a : A) → P a) → (xs : List A) → AllByRecursion P xs
all_each P each [] = tt
all_each P each (x ∷ xs) = (each x, all_each P each xs)

-- no change point lies between two addresses
module _ (x y : ℕ) (sections : List AddressRange) where
  -- so none of a module does
  pub answer_outside : (answers : List (Result (Option ModuleInfo) StreamError))
      → AllByRecursion (IsOutside x y) (flat_map (answer_points sections) answers) → (index : ℕ)
      → AllByRecursion (IsOutside x y) (answer_points sections (answer_at answers index))
  answer_outside [] all index = tt
  answer_outside (answer ∷ answers) all zero =
      (all_parts (IsOutside x y) (answer_points sections answer) (flat_map (answer_points sections) answers) all).0
  answer_outside (answer ∷ answers) all (suc index) =
      answer_outside answers
      (all_parts (IsOutside x y) (answer_points sections answer) (flat_map (answer_points sections) answers) all).1
      index

  -- the inline ranges of a procedure start and end outside of the two addresses
  abbrev IsProcedureOutside : List IdIndex → ModuleInfo → ModuleProcedure → Type 0
  IsProcedureOutside inlinees info p =
      AllByRecursion (IsOutside x y) (range_points sections p.offset.section (ranges_or_none inlinees info p))

  -- what is known of a module's code changes outside of the two addresses alone
  abbrev IsKnownOutside : ModuleInfo → ExtendedInfo → Type 0
  IsKnownOutside info known =
      AllByRecursion (IsOutside x y) (entry_points sections known.line_program.entries)
      × AllByRecursion (IsProcedureOutside known.inlinees info) (info_procedures info)

  -- none of the change points of inline ranges lies between the two, so those of each procedure don't
  procedures_outside : (inlinees : List IdIndex) (info : ModuleInfo) (ps : List ModuleProcedure)
      → AllByRecursion (IsOutside x y) (inlined_points sections inlinees info ps)
      → AllByRecursion (IsProcedureOutside inlinees info) ps
  procedures_outside inlinees info [] all = tt
  procedures_outside inlinees info (p ∷ ps) all =
      let parts = all_parts (IsOutside x y)
      (range_points sections p.offset.section (ranges_or_none inlinees info p))
      (inlined_points sections inlinees info ps) all in
      (parts.0, procedures_outside inlinees info ps parts.1)

  -- so what is known of a module's code doesn't change there
  known_outside : (info : ModuleInfo) (known : Result ExtendedInfo Error)
      → AllByRecursion (IsOutside x y) (code_points sections info known) → IfOk known (IsKnownOutside info)
  known_outside info (Err e) all = tt
  known_outside info (Ok known) all =
      let parts = all_parts (IsOutside x y) (entry_points sections known.line_program.entries)
      (inlined_points sections known.inlinees info (info_procedures info)) all in
      (parts.0, procedures_outside known.inlinees info (info_procedures info) parts.1)

  -- the same of what the records hold of a module
  abbrev IsAnswerOutside : Result (Option ModuleInfo) StreamError → Type 0
  IsAnswerOutside answer =
      AllByRecursion (IsOutside x y) (procedure_points sections (provided_procedures answer))
      × IfSome (result_unwrap_or answer None) (λ info. IfOk (extended_info info) (IsKnownOutside info))

  -- it follows of the change points
  answer_known : (answer : Result (Option ModuleInfo) StreamError)
      → AllByRecursion (IsOutside x y) (answer_points sections answer) → IsAnswerOutside answer
  answer_known (Err fault) all = (tt, tt)
  answer_known (Ok None) all = (tt, tt)
  answer_known (Ok (Some info)) all =
      let parts = all_parts (IsOutside x y) (procedure_points sections (info_procedures info))
      (code_points sections info (extended_info info)) all in
      (parts.0, known_outside info (extended_info info) parts.1)

  -- the inline ranges of a procedure of a module start and end outside, by what can be read of the module
  abbrev pub IsReadOutside : Option ModuleInfo → ModuleProcedure → Type 0
  IsReadOutside readable p =
      IfSome readable (λ info. IfOk (extended_info info) (λ known. IsProcedureOutside known.inlinees info p))

  -- the line program of a module changes outside, by what can be read of the module
  abbrev pub AreLinesOutside : Option ModuleInfo → Type 0
  AreLinesOutside readable =
      IfSome readable (λ info. IfOk (extended_info info)
      (λ known. AllByRecursion (IsOutside x y) (entry_points sections known.line_program.entries)))

  -- what a module's records are where its symbols have no fault
  abbrev whole : ModuleInfo → Option ModuleInfo
  whole info = cond (is_none info.symbols.fault) (Some info) None

  -- what holds of the records of a module holds of what can be read of it
  when_whole : (P : ModuleInfo → Type 0) (info : ModuleInfo) → P info → IfSome (whole info) P
  when_whole P info holds = by_test (is_none info.symbols.fault) where
    by_test : (t : Bool) → IfSome (cond t (Some info) None) P
    by_test true = holds
    by_test false = tt

  -- what can be read of a module, of which no change point lies between the two, has its lines outside
  lines_outside : (answer : Result (Option ModuleInfo) StreamError) → IsAnswerOutside answer
      → AreLinesOutside (option_and_then whole (result_unwrap_or answer None))
  lines_outside (Err fault) all = tt
  lines_outside (Ok None) all = tt
  lines_outside (Ok (Some info)) all =
      when_whole (λ i. IfOk (extended_info i)
      (λ known. AllByRecursion (IsOutside x y) (entry_points sections known.line_program.entries))) info
      (by_known (extended_info info) all.1)
    where
      by_known : (known : Result ExtendedInfo Error) → IfOk known (IsKnownOutside info)
          → IfOk known (λ k. AllByRecursion (IsOutside x y) (entry_points sections k.line_program.entries))
      by_known (Err e) holds = tt
      by_known (Ok k) holds = holds.0

  -- and the inline ranges of its procedures
  reads_outside : (answer : Result (Option ModuleInfo) StreamError) → IsAnswerOutside answer
      → AllByRecursion (IsReadOutside (option_and_then whole (result_unwrap_or answer None)))
      (provided_procedures answer)
  reads_outside (Err fault) all = tt
  reads_outside (Ok None) all = tt
  reads_outside (Ok (Some info)) all =
      all_weaker (λ p. IfOk (extended_info info) (λ known. IsProcedureOutside known.inlinees info p))
      (IsReadOutside (whole info))
      (λ p holds. when_whole
      (λ i. IfOk (extended_info i) (λ known. IsProcedureOutside known.inlinees i p)) info holds)
      (info_procedures info) (by_known (extended_info info) all.1)
    where
      by_known : (known : Result ExtendedInfo Error) → IfOk known (IsKnownOutside info)
          → AllByRecursion (λ p. IfOk known (λ k. IsProcedureOutside k.inlinees info p)) (info_procedures info)
      by_known (Err e) holds = all_each (λ p. Unit {0}) (λ p. tt) (info_procedures info)
      by_known (Ok k) holds = holds.1

  -- a list of modules, and what is answered of each
  module _ (infos : ProviderInfos) (modules : List Module)
      (all : (index : ℕ) (named : Module) → AllByRecursion (IsOutside x y)
      (answer_points sections (infos index named))) where
    -- the procedures of each module start and end outside
    pub module_procedures_outside : (index : ℕ)
        → AllByRecursion (IsOutside x y) (procedure_points sections (procedures_of_module infos modules index))
    module_procedures_outside index = by_module (slice_get modules index) refl where
      by_module : (found : Option Module) → slice_get modules index ≡ found
          → AllByRecursion (IsOutside x y) (procedure_points sections (procedures_of_module infos modules index))
      by_module None is = rw is tt
      by_module (Some named) is = rw is (answer_known (infos index named) (all index named)).0

    -- so do their inline ranges
    pub module_ranges_outside : (index : ℕ)
        → AllByRecursion (IsReadOutside (readable_info infos modules index)) (procedures_of_module infos modules index)
    module_ranges_outside index = by_module (slice_get modules index) refl where
      by_module : (found : Option Module) → slice_get modules index ≡ found
          → AllByRecursion (IsReadOutside (readable_info infos modules index))
          (procedures_of_module infos modules index)
      by_module None is = rw is tt
      by_module (Some named) is =
          rw is (reads_outside (infos index named) (answer_known (infos index named) (all index named)))

    -- and their line programs
    pub module_lines_outside : (index : ℕ) → AreLinesOutside (readable_info infos modules index)
    module_lines_outside index = by_module (slice_get modules index) refl where
      by_module : (found : Option Module) → slice_get modules index ≡ found
          → AreLinesOutside (readable_info infos modules index)
      by_module None is = rw is tt
      by_module (Some named) is =
          rw is (lines_outside (infos index named) (answer_known (infos index named) (all index named)))
