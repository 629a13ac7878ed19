-- Cached names, which were printed once.
use Rattle.std.specs.Prelude.{◌≡◌, ℕ, List, [], Option, Some, option_map, string_bytes}
use Rattle.std.specs.List.{All, IsAmong}
use Rattle.pdb_records.specs.Names.{lossy}
use Rattle.pdb_types.specs.FailedParts.{Parts}
use Rattle.pdb_types.specs.TypeInputs.{TypeInputs}
use Rattle.pdb_records.specs.Provided.{ProviderInfos}
use Rattle.pdb_functions.specs.FunctionMatches.{procedures_of_module}
use Rattle.pdb_functions.specs.SymbolNames.{name_by_symbol}
use Rattle.pdb_type_texts.specs.BrokenParts.{Settled}
use Rattle.pdb_type_texts.specs.Documents.{Run}
use Rattle.pdb_type_printer.specs.Formatters.{Formatter}
use Rattle.pdb_type_texts.specs.Printed.{signature_run, id_run}
use Rattle.pdb_function_info.specs.NameTexts.{text_of_run}
use Rattle.pdb_function_info.specs.declared.name_keys.IdKey.{IdKey}
use Rattle.pdb_function_info.specs.declared.name_keys.SignatureKey.{SignatureKey}
use Rattle.pdb_function_info.specs.declared.cached_texts.CachedText.{CachedText}

-- the inputs for printing names: the type inputs of a formatter, the broken parts that it found, and the provider of
-- the records with the procedures
pub record Namer (P : Type 0) : Type 0 where
  pub type_inputs : TypeInputs P
  pub failed : Parts
  pub provider : P

-- a text is the printed one, if printing succeeds; printing it again adds no failed parts to these
pub record IsPrinted (printing : Parts → Run) (failed : Parts) (text : Option (List ℕ)) : Type 0 where
  pub is : text ≡ text_of_run (printing [])
  pub settled : Settled printing failed

-- the printing of a procedure's signature, with this name
abbrev pub signature_printing : {P : Type 0} → (P → ProviderInfos) → Formatter P → SignatureKey → List ℕ
    → Parts → Run
signature_printing info f key name = signature_run info f.type_inputs key.module_index (lossy name) key.type_index

-- the cached text of a procedure is its signature, with the name that its symbol has in these records
abbrev pub IsCachedSignature : {P : Type 0} → (P → ProviderInfos) → ProviderInfos → Formatter P
    → CachedText SignatureKey → Type 0
IsCachedSignature info infos f cached = (name : List ℕ)
    → name_by_symbol cached.key.symbol (procedures_of_module infos f.type_inputs.modules cached.key.module_index)
    ≡ Some name
    → IsPrinted (signature_printing info f cached.key name) f.failed (option_map string_bytes cached.text)

-- each cached text of a procedure is its signature
unfoldable pub IsSignatureCache : {P : Type 0} → (P → ProviderInfos) → ProviderInfos → Formatter P
    → List (CachedText SignatureKey)
    → Type 0
IsSignatureCache info infos f cached = All (IsCachedSignature info infos f) cached

-- the cached text of an id is the printed one
abbrev pub IsCachedId : {P : Type 0} → (P → ProviderInfos) → Formatter P → CachedText IdKey → Type 0
IsCachedId info f cached =
    IsPrinted (id_run info f.type_inputs cached.key.module_index cached.key.index) f.failed
    (option_map string_bytes cached.text)

-- each cached text of an id is the printed one
unfoldable pub IsIdCache : {P : Type 0} → (P → ProviderInfos) → Formatter P → List (CachedText IdKey) → Type 0
IsIdCache info f cached = All (IsCachedId info f) cached

-- the cache has a text under a key
pub record HasText {K : Type 0} (cached : List (CachedText K)) (key : K) (text : Option (List ℕ)) : Type 0 where
  pub entry : CachedText K
  pub stands : IsAmong cached entry
  pub keyed : entry.key ≡ key
  pub is : option_map string_bytes entry.text ≡ text
