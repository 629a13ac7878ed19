-- The function over a section offset starts in that section.
use Rattle.std.proofs.Common.{◌≡◌, ℕ, ◌+◌, Bool, true, false, cond, List, [], ◌∷◌}
use Rattle.std.specs.Prelude.{◌&&◌, ◌==◌, nat_le, nat_lt, Option, Some, None, IfSome, find}
use Rattle.std.specs.Prelude.{option_and_then}
use Rattle.std.specs.List.{AllByRecursion}
use Rattle.std.proofs.lemmas.Bool.{and_parts, eqb-true}
use Rattle.pdb_records.specs.declared.addresses.PdbInternalSectionOffset.{PdbInternalSectionOffset}
use Rattle.pdb_records.specs.declared.debug_information.Module.{Module}
use Rattle.pdb_records.specs.Provided.{ProviderInfos}
use Rattle.pdb_tables.specs.Pick.{pick}
use Rattle.pdb_functions.specs.declared.merged_contributions.ModuleSectionContribution.{ModuleSectionContribution}
use Rattle.pdb_functions.specs.FunctionMatches.{FunctionMatch, found_procedure, found_global, found_or_global, global_in}
use Rattle.pdb_functions.specs.FunctionMatches.{function_over, function_in_contribution, procedures_of_module}
use Rattle.pdb_functions.specs.GlobalFunctions.{GlobalFunction}
use Rattle.pdb_functions.specs.Procedures.{ModuleProcedure}
use Rattle.pdb_functions.specs.Spans.{contribution_covers, procedure_covers, global_function_covers}
use Rattle.pdb_change_points.proofs.ListLemmas.{all_weaker, picked_passes}

-- a function starts in a section, and if it is a procedure, something holds of its module index and of it
abbrev pub StartsIn : ℕ → (ℕ → ModuleProcedure → Type 0) → FunctionMatch → Type 0
StartsIn n P (found_procedure m p) = (p.offset.section ≡ n) × P m p
StartsIn n P (found_global m f) = f.start.section ≡ n

-- what holds of all procedures of each module holds of a procedure that lies over a section offset
module _ (infos : ProviderInfos) (modules : List Module) (P : ℕ → ModuleProcedure → Type 0)
    (each : (index : ℕ) → AllByRecursion (P index) (procedures_of_module infos modules index))
    (globals : List GlobalFunction) (place : PdbInternalSectionOffset) where
  -- a procedure that covers the section offset starts in its section
  covering : (index : ℕ) (p : ModuleProcedure) → P index p → procedure_covers place p ≡ true
      → (p.offset.section ≡ place.section) × P index p
  covering index p holds passes =
      let two = and_parts ((p.offset.section == place.section) && nat_le p.offset.offset place.offset)
      (nat_lt place.offset (p.offset.offset + p.len)) passes in
      let one = and_parts (p.offset.section == place.section) (nat_le p.offset.offset place.offset) two.0 in
      (eqb-true p.offset.section place.section one.0, holds)

  -- so does a global function
  all_global : (fs : List GlobalFunction)
      → AllByRecursion (λ f. global_function_covers place f ≡ true → f.start.section ≡ place.section) fs
  all_global [] = tt
  all_global (f ∷ fs) = (
    (λ passes. eqb-true f.start.section place.section
        (and_parts (f.start.section == place.section) (nat_le f.start.offset place.offset) passes).0),
    all_global fs,
  )

  -- so does what lies over it in a contribution
  in_contribution : (c : ModuleSectionContribution)
      → IfSome (function_in_contribution infos modules globals place c) (StartsIn place.section P)
  in_contribution c =
      by_procedure (pick (procedure_covers place) (λ p. p.offset.offset)
      (procedures_of_module infos modules c.module_index))
      (picked_passes (λ p. (p.offset.section ≡ place.section) × P c.module_index p) (procedure_covers place)
      (λ p. p.offset.offset) (procedures_of_module infos modules c.module_index)
      (all_weaker (P c.module_index)
      (λ p. procedure_covers place p ≡ true → (p.offset.section ≡ place.section) × P c.module_index p)
      (covering c.module_index) (procedures_of_module infos modules c.module_index) (each c.module_index)))
    where
      by_start : (f : GlobalFunction) → f.start.section ≡ place.section → (t : Bool)
          → IfSome (cond t (Some (found_global c.module_index f)) None) (StartsIn place.section P)
      by_start f e true = e
      by_start f e false = tt

      by_global : (f : Option GlobalFunction) → IfSome f (λ g. g.start.section ≡ place.section)
          → IfSome (global_in c f) (StartsIn place.section P)
      by_global None e = tt
      by_global (Some f) e = by_start f e (nat_le c.start_offset f.start.offset)

      by_procedure : (p : Option ModuleProcedure)
          → IfSome p (λ q. (q.offset.section ≡ place.section) × P c.module_index q)
          → IfSome (found_or_global c (pick (global_function_covers place) (λ f. f.start.offset) globals) p)
          (StartsIn place.section P)
      by_procedure None holds =
          by_global (pick (global_function_covers place) (λ f. f.start.offset) globals)
          (picked_passes (λ f. f.start.section ≡ place.section) (global_function_covers place)
          (λ f. f.start.offset) globals (all_global globals))
      by_procedure (Some p) holds = holds

  -- so does what lies over it
  pub over_starts_in : (contributions : List ModuleSectionContribution)
      → IfSome (function_over infos modules contributions globals place) (StartsIn place.section P)
  over_starts_in contributions = by_contribution (find (contribution_covers place) contributions) where
    by_contribution : (c : Option ModuleSectionContribution)
        → IfSome (option_and_then (function_in_contribution infos modules globals place) c)
        (StartsIn place.section P)
    by_contribution None = tt
    by_contribution (Some c) = in_contribution c
