-- What lies over an address, over a part of the records and over the whole.
use Rattle.std.proofs.Common.{◌≡◌, ◌∙◌, ℕ, Bool, true, false, cond, nat_le, List, refl, ap, subst, sym}
use Rattle.std.specs.Prelude.{⊤, Option, Some, None, IfSome, find, slice_get}
use Rattle.std.specs.Prelude.{option_and_then}
use Rattle.pdb_records.specs.Addresses.{internal_offset}
use Rattle.pdb_records.specs.declared.addresses.PdbInternalSectionOffset.{PdbInternalSectionOffset}
use Rattle.pdb_records.specs.declared.debug_information.Module.{Module}
use Rattle.pdb_records.specs.Provided.{ProviderInfos}
use Rattle.pdb_tables.specs.Pick.{pick}
use Rattle.pdb_functions.specs.declared.merged_contributions.ModuleSectionContribution.{ModuleSectionContribution}
use Rattle.pdb_functions.specs.FunctionMatches.{FunctionMatch, found_procedure, found_global, function_module}
use Rattle.pdb_functions.specs.FunctionMatches.{procedures_of_module, function_over, function_in_contribution}
use Rattle.pdb_functions.specs.FunctionMatches.{found_or_global, global_in}
use Rattle.pdb_functions.specs.GlobalFunctions.{GlobalFunction}
use Rattle.pdb_functions.specs.ModuleInfoCache.{readable_info}
use Rattle.pdb_functions.specs.Procedures.{ModuleProcedure, provided_procedures}
use Rattle.pdb_functions.specs.Spans.{contribution_covers, procedure_covers, global_function_covers}
use Rattle.pdb_addr2line.specs.ContextInputs.{ContextInputs, contributions_of, global_functions_of}
use Rattle.pdb_addr2line.specs.Lookups.{found_at}
use Rattle.pdb_part_laws.specs.Asked.{Indices}
use Rattle.pdb_known.specs.SameModules.{KnowsModule, KnowsAddress, AreProcedureTypesIn}
use Rattle.pdb_known.proofs.BodyLemmas.{all_picked}

-- the procedures of a module that both have alike
procedures_same : (infos others : ProviderInfos) (modules : List Module) (index : ℕ)
    → ((named : Module) → infos index named ≡ others index named)
    → procedures_of_module infos modules index ≡ procedures_of_module others modules index
procedures_same infos others modules index same = by_module (slice_get modules index) refl where
  by_module : (found : Option Module) → slice_get modules index ≡ found
      → procedures_of_module infos modules index ≡ procedures_of_module others modules index
  by_module None is = rw is refl
  by_module (Some named) is = rw is (ap provided_procedures (same named))

-- what can be read of a module that both have alike
pub readable_same : (infos others : ProviderInfos) (modules : List Module) (index : ℕ)
    → ((named : Module) → infos index named ≡ others index named)
    → readable_info infos modules index ≡ readable_info others modules index
readable_same infos others modules index same = by_module (slice_get modules index) refl where
  by_module : (found : Option Module) → slice_get modules index ≡ found
      → readable_info infos modules index ≡ readable_info others modules index
  by_module None is = rw is refl
  by_module (Some named) is = rw (is, same named) refl

-- the contribution over a section offset, where there is one
abbrev covering : List ModuleSectionContribution → Option PdbInternalSectionOffset → Option ModuleSectionContribution
covering contributions place = option_and_then (λ o. find (contribution_covers o) contributions) place

-- what lies over a section offset
over_same : (infos others : ProviderInfos) (modules : List Module) (contributions : List ModuleSectionContribution)
    (globals : List GlobalFunction) (place : Option PdbInternalSectionOffset)
    → ((c : ModuleSectionContribution) → covering contributions place ≡ Some c
    → (named : Module) → infos c.module_index named ≡ others c.module_index named)
    → option_and_then (function_over infos modules contributions globals) place
    ≡ option_and_then (function_over others modules contributions globals) place
over_same infos others modules contributions globals None same = refl
over_same infos others modules contributions globals (Some place) same =
    by_covering (find (contribution_covers place) contributions) refl where
      by_covering : (found : Option ModuleSectionContribution) → find (contribution_covers place) contributions ≡ found
          → option_and_then (function_in_contribution infos modules globals place) found
          ≡ option_and_then (function_in_contribution others modules globals place) found
      by_covering None is = refl
      by_covering (Some c) is =
          ap (λ (procedures : List ModuleProcedure). found_or_global c
          (pick (global_function_covers place) (λ f. f.start.offset) globals)
          (pick (procedure_covers place) (λ p. p.offset.offset) procedures))
          (procedures_same infos others modules c.module_index (same c is))

-- a function is of this module, and its type is in the set where it is a procedure
abbrev IsOf : (ℕ → Bool) → ℕ → FunctionMatch → Type 0
IsOf is_in module_index (found_procedure m p) = (m ≡ module_index) × (is_in p.type_index.0 ≡ true)
IsOf is_in module_index (found_global m f) = m ≡ module_index

-- what lies over a section offset in a contribution
found_of : (is_in : ℕ → Bool) (infos : ProviderInfos) (modules : List Module) (globals : List GlobalFunction)
    (place : PdbInternalSectionOffset) (c : ModuleSectionContribution)
    → AreProcedureTypesIn is_in (procedures_of_module infos modules c.module_index)
    → IfSome (function_in_contribution infos modules globals place c) (IsOf is_in c.module_index)
found_of is_in infos modules globals place c types =
    by_procedure (pick (procedure_covers place) (λ p. p.offset.offset)
    (procedures_of_module infos modules c.module_index))
    (all_picked (λ p. is_in p.type_index.0 ≡ true) (procedure_covers place) (λ p. p.offset.offset)
    (procedures_of_module infos modules c.module_index) types)
  where
    by_start : (f : GlobalFunction) (t : Bool)
        → IfSome (cond t (Some (found_global c.module_index f)) None) (IsOf is_in c.module_index)
    by_start f true = refl
    by_start f false = tt

    by_global : (found : Option GlobalFunction) → IfSome (global_in c found) (IsOf is_in c.module_index)
    by_global None = tt
    by_global (Some f) = by_start f (nat_le c.start_offset f.start.offset)

    by_procedure : (found : Option ModuleProcedure) → IfSome found (λ p. is_in p.type_index.0 ≡ true)
        → IfSome (found_or_global c (pick (global_function_covers place) (λ f. f.start.offset) globals) found)
        (IsOf is_in c.module_index)
    by_procedure None holds = by_global (pick (global_function_covers place) (λ f. f.start.offset) globals)
    by_procedure (Some p) holds = (refl, holds)

-- where a function is a procedure, its type is in the set
abbrev pub IsTypeIn : (ℕ → Bool) → FunctionMatch → Type 0
IsTypeIn is_in (found_procedure m p) = is_in p.type_index.0 ≡ true
IsTypeIn is_in (found_global m f) = ⊤

-- the part knows the module of a function, and its type is in a set where it is a procedure
pub record KnowsFunction {P : Type 0} (info : P → ProviderInfos) (part whole : ContextInputs P)
    (found : FunctionMatch) : Type 0 where
  pub at : Indices
  pub knows : KnowsModule at info part whole (function_module found)
  pub typed : IsTypeIn at.types found

-- two contexts, of which one knows the module over an address
module _ {P : Type 0} (info : P → ProviderInfos) (part whole : ContextInputs P) (address : ℕ)
    (known : KnowsAddress info part whole address) where
  -- what lies over the address
  pub found_same : found_at info part address ≡ found_at info whole address
  found_same =
      over_same (info part.provider) (info whole.provider) part.type_inputs.modules (contributions_of part)
      (global_functions_of part) (internal_offset part.address_map (record { 0 = address }))
      (λ c is. (known.«module» c is).1.records)
      ∙ rw (
        known.front.address_map,
        known.front.sections,
        known.front.debug_information,
        known.front.global_symbols,
        known.front.modules,
      ) refl

  -- the module of what lies over the address
  pub function_known : (found : FunctionMatch) → found_at info part address ≡ Some found
      → KnowsFunction info part whole found
  function_known found is =
      by_place (internal_offset part.address_map (record { 0 = address })) known.«module» is where
        by_kind : (at : Indices) (c : ModuleSectionContribution) (f : FunctionMatch) → IsOf at.types c.module_index f
            → KnowsModule at info part whole c.module_index → KnowsFunction info part whole f
        by_kind at c (found_procedure m p) of knows = record {
          at = at;
          knows = subst (λ i. KnowsModule at info part whole i) (sym of.0) knows;
          typed = of.1;
        }
        by_kind at c (found_global m f) of knows = record {
          at = at;
          knows = subst (λ i. KnowsModule at info part whole i) (sym of) knows;
          typed = tt;
        }

        by_covering : (place : PdbInternalSectionOffset) (c : Option ModuleSectionContribution)
            → ((d : ModuleSectionContribution) → c ≡ Some d
            → (at : Indices) × KnowsModule at info part whole d.module_index)
            → option_and_then (function_in_contribution (info part.provider) part.type_inputs.modules
            (global_functions_of part) place) c ≡ Some found
            → KnowsFunction info part whole found
        by_covering place None knows e = cc
        by_covering place (Some c) knows e =
            let (at, here) = knows c refl in
            by_kind at c found (subst (λ o. IfSome o (IsOf at.types c.module_index)) e
            (found_of at.types (info part.provider) part.type_inputs.modules (global_functions_of part) place c
            here.procedures)) here

        by_place : (place : Option PdbInternalSectionOffset)
            → ((d : ModuleSectionContribution) → covering (contributions_of part) place ≡ Some d
            → (at : Indices) × KnowsModule at info part whole d.module_index)
            → option_and_then (function_over (info part.provider) part.type_inputs.modules (contributions_of part)
            (global_functions_of part)) place ≡ Some found
            → KnowsFunction info part whole found
        by_place None knows e = cc
        by_place (Some place) knows e =
            by_covering place (find (contribution_covers place) (contributions_of part)) knows e
