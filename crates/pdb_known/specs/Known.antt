-- The parts of a file that were read, and when they are enough.
use Rattle.std.specs.Prelude.{◌≡◌, ℕ, ◌+◌, ◌-◌, ◌^◌, Bool, true, false, not, ◌&&◌, ◌||◌, List, [], ◌∷◌}
use Rattle.std.specs.Prelude.{nat_lt, slice_get, unwrap_or, Option, Some, None, Result, Ok, Err, option_map}
use Rattle.std.specs.List.{list_all}
use Rattle.std.specs.Option.{option_map_or}
use Rattle.std.specs.Result.{result_ok, result_unwrap_or}
use Rattle.pdb_records.specs.Records.{Records}
use Rattle.pdb_records.specs.declared.error.StreamError.{StreamError}
use Rattle.pdb_records.specs.declared.ids.IdData.{IdData}
use Rattle.pdb_records.specs.declared.ids.IdIndex.{IdIndex}
use Rattle.pdb_records.specs.declared.modules.ModuleInfo.{ModuleInfo}
use Rattle.pdb_records.specs.declared.types.Item.{Item}
use Rattle.pdb_records.specs.declared.types.ItemInformation.{ItemInformation}
use Rattle.pdb_records.specs.declared.types.TypeData.{TypeData}
use Rattle.pdb_records.specs.declared.types.TypeIndex.{TypeIndex}
use Rattle.pdb_errors.specs.declared.error.Error.{Error}
use Rattle.pdb_records.specs.Provided.{ProviderInfos}
use Rattle.pdb_types.specs.ForwardReferences.{forward_size}
use Rattle.pdb_types.specs.ItemReading.{entry}
use Rattle.pdb_types.specs.Sizes.{underneath}
use Rattle.pdb_functions.specs.Procedures.{provided_procedures}
use Rattle.pdb_inline.specs.Sites.{site_of}
use Rattle.pdb_addr2line.specs.ContextData.{info_at}
use Rattle.pdb_addr2line.specs.ContextInputs.{ContextInputs}
use Rattle.pdb_addr2line.specs.Lookups.{contribution_at}
use Rattle.pdb_part_laws.specs.Asked.{Indices, alone, types_behind, sizes_behind, types_behind_id, ids_behind_id}

-- the records of each module
abbrev pub infos_of : Records → ProviderInfos
infos_of records module_index named = info_at records module_index

-- which entries of a stream of types or ids were read: the index of the first entry, and a flag for each one
pub record Span : Type 0 where
  pub first : ℕ
  pub read : List Bool

-- whether nothing is left to be read for an index: its entry was read, or the stream has none. An index of 2 ^ 31 or
-- more refers to another module, and is never covered
abbrev pub is_covered : Span → ℕ → Bool
is_covered span index =
    nat_lt index (2 ^ 31) && (nat_lt index span.first || unwrap_or (slice_get span.read (index - span.first)) true)

-- what was read of a file: the records so far, whether they are all, a flag for each module, the types, the types whose
-- size is the same as in all records, and the ids
pub record Known : Type 0 where
  pub records : Records
  pub all : Bool
  pub modules : List Bool
  pub types : Span
  pub sizes : Span
  pub ids : Span

-- whether nothing is left to be read of a module: it was read, or there is none at that index
abbrev pub is_read : Known → ℕ → Bool
is_read known module_index = unwrap_or (slice_get known.modules module_index) true

-- whether a type was read, and its size is known
abbrev pub is_sized : Known → ℕ → Bool
is_sized known index = is_covered known.types index && is_covered known.sizes index

-- the indices of what was read
abbrev pub indices_of : Known → Indices
indices_of known = record { types = is_covered known.types; sizes = is_sized known; ids = is_covered known.ids }

-- two streams have the same entry for each covered index, or failed with the same fault
abbrev pub AreAlike : {I D : Type 0} → (I → ℕ) → Span → Result (ItemInformation I D) StreamError
    → Result (ItemInformation I D) StreamError → Type 0
AreAlike number_of span (Ok part) (Ok whole) = (index : ℕ) → is_covered span index ≡ true
    → entry number_of part.items index ≡ entry number_of whole.items index
AreAlike number_of span (Err fault) (Err other) = fault ≡ other
AreAlike number_of span (Ok part) (Err fault) = ⊥
AreAlike number_of span (Err fault) (Ok whole) = ⊥

-- two streams give the same size to the forward reference of each index whose size is known
abbrev pub AreDefinedAlike : Span → Result (ItemInformation TypeIndex TypeData) StreamError
    → Result (ItemInformation TypeIndex TypeData) StreamError → Type 0
AreDefinedAlike span (Ok part) (Ok whole) = (index : ℕ) → is_covered span index ≡ true
    → forward_size index part.items.items ≡ forward_size index whole.items.items
AreDefinedAlike span (Ok part) (Err fault) = ⊥
AreDefinedAlike span (Err fault) other = Unit {0}

-- what was read is a part of these records: it has each stream completely, except that of types, ids and modules it has
-- those with a flag
pub record IsPartOf (known : Known) (whole : Records) : Type 0 where
  pub all : known.all ≡ true → known.records ≡ whole
  pub sections : known.records.sections ≡ whole.sections
  pub address_map : known.records.address_map ≡ whole.address_map
  pub global_symbols : known.records.global_symbols ≡ whole.global_symbols
  pub debug_information : known.records.debug_information ≡ whole.debug_information
  pub string_table : known.records.string_table ≡ whole.string_table
  pub modules : (module_index : ℕ) → is_read known module_index ≡ true
      → info_at known.records module_index ≡ info_at whole module_index
  pub types : AreAlike (λ i. i.0) known.types known.records.type_information whole.type_information
  pub definitions : AreDefinedAlike known.sizes known.records.type_information whole.type_information
  pub ids : AreAlike (λ i. i.0) known.ids known.records.id_information whole.id_information

-- whether each index of a list of types passes a test
abbrev pub all_types : (ℕ → Bool) → List TypeIndex → Bool
all_types is_in indices = list_all (λ index. is_in index.0) indices

-- whether each index of a list of ids passes a test
abbrev pub all_ids : (ℕ → Bool) → List IdIndex → Bool
all_ids is_in indices = list_all (λ index. is_in index.0) indices

-- whether everything was read that is needed to print a type and to know its size: the types in it, and the sizes of
-- its element or of the type underneath
abbrev pub is_type_closed : Known → ℕ → TypeData → Bool
is_type_closed known number content =
    all_types (is_covered known.types) (types_behind content) && (
    all_types (is_sized known) (sizes_behind content)
    && (not (is_sized known number) || all_types (is_sized known) (alone (underneath content))))

-- whether the types and ids that are printed as parts of an id were read
abbrev pub is_id_closed : Known → IdData → Bool
is_id_closed known content =
    all_types (is_covered known.types) (types_behind_id content)
    && all_ids (is_covered known.ids) (ids_behind_id content)

-- whether an entry of types is closed; an unreadable one is printed without other entries
abbrev pub is_type_item_closed : Known → Item TypeIndex TypeData → Bool
is_type_item_closed known item = option_map_or (is_type_closed known item.index.0) (result_ok item.content) true

-- whether an entry of ids is closed
abbrev pub is_id_item_closed : Known → Item IdIndex IdData → Bool
is_id_item_closed known item = option_map_or (is_id_closed known) (result_ok item.content) true

-- whether each entry of a stream passes a test; a stream that can't be read has no entries
abbrev pub all_items : {I D : Type 0} → (Item I D → Bool) → Result (ItemInformation I D) StreamError → Bool
all_items test (Ok content) = list_all test content.items.items
all_items test (Err fault) = true

-- whether the ids of the inline sites of a module were read
abbrev pub are_sites_closed : Known → ModuleInfo → Bool
are_sites_closed known info =
    list_all (λ symbol. all_ids (is_covered known.ids) (alone (option_map (λ site. site.inlinee) (site_of symbol))))
    info.symbols.items

-- whether the types of a module's procedures and the ids of its inline sites were read
abbrev pub is_module_closed : Known → Result (Option ModuleInfo) StreamError → Bool
is_module_closed known answer =
    list_all (λ p. is_covered known.types p.type_index.0) (provided_procedures answer)
    && option_map_or (are_sites_closed known) (result_unwrap_or answer None) true

-- whether each module that was read is closed; `module_index` is that of the first in the list
abbrev pub are_modules_closed : Known → ℕ → List (Result (Option ModuleInfo) StreamError) → Bool
are_modules_closed known module_index [] = true
are_modules_closed known module_index (answer ∷ answers) =
    (not (is_read known module_index) || is_module_closed known answer)
    && are_modules_closed known (module_index + 1) answers

-- whether enough was read: everything, or each type and id to which a module, a type or an id that was read refers
abbrev pub is_closed : Known → Bool
is_closed known =
    known.all || (are_modules_closed known 0 known.records.module_infos && (
    all_items (is_type_item_closed known) known.records.type_information
    && all_items (is_id_item_closed known) known.records.id_information))

-- whether the module that owns the code at an address is still to be read
abbrev pub lacks : Known → ContextInputs Records → ℕ → Bool
lacks known inputs address =
    option_map_or (λ c. not (is_read known c.module_index)) (contribution_at inputs address) false

-- the error of a refusal
abbrev pub refusal_of : {A : Type 0} → Result A Error → Option Error
refusal_of (Ok answer) = None
refusal_of (Err error) = Some error

-- all records of a file were read
abbrev pub all_read : Records → Known
all_read records = record {
  records = records;
  all = true;
  modules = [];
  types = record { first = 0; read = [] };
  sizes = record { first = 0; read = [] };
  ids = record { first = 0; read = [] };
}
