-- Readable records of modules, and their cache.
use Rattle.std.specs.Prelude.{◌≡◌, ℕ, List, Option, Some, None, is_none, slice_get}
use Rattle.std.specs.Prelude.{option_map, option_and_then, if◌then◌else◌}
use Rattle.std.specs.Result.{result_unwrap_or}
use Rattle.pdb_records.specs.declared.debug_information.Module.{Module}
use Rattle.pdb_records.specs.declared.modules.ModuleInfo.{ModuleInfo}
use Rattle.pdb_tables.specs.Slots.{held}
use Rattle.pdb_records.specs.Provided.{ProviderInfos}
use Rattle.pdb_functions.specs.declared.named_info.NamedInfo.{NamedInfo}

-- the records of the module with this index, if the provider has them and its symbols were read to their end
abbrev pub readable_info : ProviderInfos → List Module → ℕ → Option ModuleInfo
readable_info infos modules module_index =
    let whole = λ (info : ModuleInfo). if is_none info.symbols.fault then Some info else None in
    let of_module = λ (m : Module). option_and_then whole (result_unwrap_or (infos module_index m) None) in
    option_and_then of_module (slice_get modules module_index)

-- the records cached for a module index are the readable ones of that module, if the module has the name that they are
-- cached with
unfoldable pub IsModuleInfoCache : ProviderInfos → List (Option NamedInfo) → Type 0
IsModuleInfoCache infos cached =
    (module_index : ℕ) (entry : NamedInfo) → held cached module_index ≡ Some entry
    → (modules : List Module) → slice_get modules module_index ≡ Some (record { name = entry.name })
    → entry.info ≡ readable_info infos modules module_index

-- records are cached for a module index, with this name
abbrev pub IsCachedInfo : List (Option NamedInfo) → ℕ → List ℕ → Type 0
IsCachedInfo cached module_index name =
    option_map (λ (entry : NamedInfo). entry.name) (held cached module_index) ≡ Some name

-- a cache of readable records of modules: the provider of the records, and the cached ones by module index
pub record InfoCache (P : Type 0) : Type 0 where
  pub provider : P
  pub cached : List (Option NamedInfo)
