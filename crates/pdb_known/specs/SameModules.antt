-- What a context over a part of the records shares with the context over the whole.
use Rattle.std.specs.Prelude.{◌≡◌, ℕ, Bool, true, List, Some, IfSome, option_map}
use Rattle.std.specs.List.{AllByRecursion}
use Rattle.pdb_records.specs.declared.debug_information.Module.{Module}
use Rattle.pdb_records.specs.declared.modules.ModuleInfo.{ModuleInfo}
use Rattle.pdb_records.specs.declared.symbols.Symbol.{Symbol}
use Rattle.pdb_records.specs.Provided.{ProviderInfos}
use Rattle.pdb_functions.specs.declared.merged_contributions.ModuleSectionContribution.{ModuleSectionContribution}
use Rattle.pdb_functions.specs.FunctionMatches.{procedures_of_module}
use Rattle.pdb_functions.specs.ModuleInfoCache.{readable_info}
use Rattle.pdb_functions.specs.Procedures.{ModuleProcedure}
use Rattle.pdb_inline.specs.Sites.{site_of}
use Rattle.pdb_addr2line.specs.ContextInputs.{ContextInputs}
use Rattle.pdb_addr2line.specs.Lookups.{contribution_at}
use Rattle.pdb_part_laws.specs.Asked.{Indices, AreIdsIn, alone}
use Rattle.pdb_known.specs.SameEntries.{HasSameEntries, IsClosedFor}

-- two contexts have the same sections, address map, debug information, public symbols and strings
pub record HasSameFront {P : Type 0} (part whole : ContextInputs P) : Type 0 where
  pub address_map : part.address_map ≡ whole.address_map
  pub sections : part.sections ≡ whole.sections
  pub debug_information : part.debug_information ≡ whole.debug_information
  pub global_symbols : part.global_symbols ≡ whole.global_symbols
  pub strings : part.strings ≡ whole.strings
  pub modules : part.type_inputs.modules ≡ whole.type_inputs.modules

-- the type of each procedure is in the set
abbrev pub AreProcedureTypesIn : (ℕ → Bool) → List ModuleProcedure → Type 0
AreProcedureTypesIn is_in procedures = AllByRecursion (λ p. is_in p.type_index.0 ≡ true) procedures

-- if a symbol opens an inline site, the id of the inlined function is in the set
abbrev pub IsSiteIdIn : (ℕ → Bool) → Symbol → Type 0
IsSiteIdIn is_in symbol = AreIdsIn is_in (alone (option_map (λ site. site.inlinee) (site_of symbol)))

-- the id of each inline site among the symbols of a module is in the set
abbrev pub AreSiteIdsIn : (ℕ → Bool) → ModuleInfo → Type 0
AreSiteIdsIn is_in info = AllByRecursion (IsSiteIdIn is_in) info.symbols.items

-- the part has the same records of a module as the whole, and the same entries of types and ids for the names of its
-- functions
pub record KnowsModule {P : Type 0} (at : Indices) (info : P → ProviderInfos) (part whole : ContextInputs P)
    (module_index : ℕ) : Type 0 where
  pub records : (named : Module) → info part.provider module_index named ≡ info whole.provider module_index named
  pub procedures : AreProcedureTypesIn at.types
      (procedures_of_module (info part.provider) part.type_inputs.modules module_index)
  pub sites : IfSome (readable_info (info part.provider) part.type_inputs.modules module_index) (AreSiteIdsIn at.ids)
  pub entries : HasSameEntries at info part.type_inputs whole.type_inputs module_index
  pub closed : IsClosedFor at info part.type_inputs module_index

-- the part has the module that owns the code at an address, and all else before modules as the whole has it
pub record KnowsAddress {P : Type 0} (info : P → ProviderInfos) (part whole : ContextInputs P) (address : ℕ)
    : Type 0 where
  pub front : HasSameFront part whole
  pub «module» : (c : ModuleSectionContribution) → contribution_at part address ≡ Some c
      → (at : Indices) × KnowsModule at info part whole c.module_index
