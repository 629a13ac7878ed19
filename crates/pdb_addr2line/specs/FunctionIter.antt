-- The functions of a program.
use Rattle.std.specs.Prelude.{◌≡◌, ℕ, ◌+◌, List, [], ◌∷◌, ◌++◌, map, fold, take}
use Rattle.std.specs.BTreeSet.{insert_key}
use Rattle.std.specs.List.{filter_map}
use Rattle.std.specs.Option.{option_map_or}
use Rattle.std.specs.Ordering.{nat_cmp}
use Rattle.pdb_records.specs.Addresses.{rva}
use Rattle.pdb_records.specs.declared.addresses.AddressRange.{AddressRange}
use Rattle.pdb_records.specs.declared.addresses.PdbInternalSectionOffset.{PdbInternalSectionOffset}
use Rattle.pdb_records.specs.declared.debug_information.Module.{Module}
use Rattle.pdb_records.specs.Provided.{ProviderInfos}
use Rattle.pdb_functions.specs.Procedures.{ModuleProcedure, provided_procedures}
use Rattle.pdb_function_info.specs.Function.{FunctionInfo}
use Rattle.pdb_addr2line.specs.Lookups.{function_at, failed_after}
use Rattle.pdb_function_info.specs.NameTexts.{GainsBrokenParts}
use Rattle.pdb_addr2line.specs.ContextInputs.{ContextInputs, ContextState, global_functions_of}

-- the procedures of modules, module by module; `module_index` is that of the first
abbrev pub procedures_of_modules : ProviderInfos → ℕ → List Module → List ModuleProcedure
procedures_of_modules infos module_index [] = []
procedures_of_modules infos module_index (m ∷ ms) =
    provided_procedures (infos module_index m) ++ procedures_of_modules infos (module_index + 1) ms

-- the section offsets at which functions start: those of global functions, then those of the procedures of all modules
abbrev pub start_section_offsets : {P : Type 0} → (P → ProviderInfos) → ContextInputs P → List PdbInternalSectionOffset
start_section_offsets info s =
    map (λ f. f.start) (global_functions_of s)
    ++ map (λ p. p.offset) (procedures_of_modules (info s.provider) 0 s.type_inputs.modules)

-- addresses in order, with that of a section offset, if it has one
abbrev pub with_start : List AddressRange → List ℕ → PdbInternalSectionOffset → List ℕ
with_start sections starts section_offset =
    option_map_or (λ address. insert_key nat_cmp starts address.0) (rva sections section_offset) starts

-- addresses in order, with those of several section offsets
abbrev pub with_starts : List AddressRange → List ℕ → List PdbInternalSectionOffset → List ℕ
with_starts sections starts section_offsets = fold (with_start sections) starts section_offsets

-- the start addresses of functions, sorted and without duplicates
abbrev pub start_addresses : {P : Type 0} → (P → ProviderInfos) → ContextInputs P → List ℕ
start_addresses info s = with_starts s.address_map [] (start_section_offsets info s)

-- the functions at these addresses, as far as there are any
abbrev pub functions_at : {P : Type 0} → (P → ProviderInfos) → ContextInputs P → List ℕ → List FunctionInfo
functions_at info s addresses = filter_map (function_at info s) addresses

-- the functions of a program: those at the start addresses
abbrev pub functions_of : {P : Type 0} → (P → ProviderInfos) → ContextInputs P → List FunctionInfo
functions_of info s = functions_at info s (start_addresses info s)

-- a context after the function at an address
abbrev pub after_function : {P : Type 0} → (P → ProviderInfos) → ContextState P → ℕ → ContextState P
after_function info c address = record c { failed = failed_after info c.inputs address c.failed }

-- a context after the functions at these addresses, in order
abbrev pub after_functions : {P : Type 0} → (P → ProviderInfos) → ContextState P → List ℕ → ContextState P
after_functions info c addresses = fold (after_function info) c addresses

-- a context keeps its inputs, and remembers only broken parts of the records beside those before; none of them are of
-- code
pub record OnlyGainsBroken {P : Type 0} (info : P → ProviderInfos) (before after : ContextState P) : Type 0 where
  pub inputs : after.inputs ≡ before.inputs
  pub broken : GainsBrokenParts info before.inputs.type_inputs before.failed after.failed
  pub code_failed : after.code_failed ≡ before.code_failed

-- a context that found the functions at the first of these addresses, and then had an allocation failure
pub record IsCutShort {P : Type 0} (info : P → ProviderInfos) (before after : ContextState P) (addresses : List ℕ)
    : Type 0 where
  pub done : ℕ
  pub interrupted : OnlyGainsBroken info (after_functions info before (take done addresses)) after
