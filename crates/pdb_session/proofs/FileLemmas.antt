-- What was read stays a part of the file's records.
use Rattle.std.proofs.Common.{◌≡◌, ◌∙◌, ℕ, Bool, true, false, List, All, map}
use Rattle.std.proofs.Common.{Option, Some, None, Result, Ok, Err, length, refl, sym, ap, subst}
use Rattle.std.specs.Prelude.{replicate}
use Rattle.std.specs.Result.{result_unwrap_or}
use Rattle.pdb_records.specs.Readings.{Read}
use Rattle.pdb_records.specs.Records.{Records}
use Rattle.pdb_records.specs.declared.error.StreamError.{StreamError}
use Rattle.pdb_records.specs.declared.ids.IdData.{IdData}
use Rattle.pdb_records.specs.declared.ids.IdIndex.{IdIndex}
use Rattle.pdb_records.specs.declared.symbols.Symbol.{Symbol}
use Rattle.pdb_records.specs.declared.types.ItemInformation.{ItemInformation}
use Rattle.pdb_records.specs.declared.types.TypeData.{TypeData}
use Rattle.pdb_records.specs.declared.types.TypeIndex.{TypeIndex}
use Rattle.pdb_msf.specs.Faults.{◌>>=◌}
use Rattle.pdb_msf.specs.Msf.{Msf, container}
use Rattle.pdb_msf.specs.declared.container_error.ContainerError.{ContainerError}
use Rattle.pdb_msf.specs.MsfLayout.{MappedFile, with_bytes}
use Rattle.pdb_tpi.specs.IdLeaves.{ids}
use Rattle.pdb_tpi.specs.ItemStreams.{ItemMeaning}
use Rattle.pdb_tpi.specs.TypeLeaves.{types}
use Rattle.pdb_tpi.specs.declared.type_places.TypePlaces.{TypePlaces}
use Rattle.pdb_container.specs.DebugRecords.{global_symbols, module_infos, streams_of_modules, tabled}
use Rattle.pdb_container.specs.Front.{HasFront}
use Rattle.pdb_container.specs.ModulePlaces.{ModuleOrFault, PlaceOrFault, module_of, module_places, modules_read}
use Rattle.pdb_container.specs.ModulePlaces.{places_within}
use Rattle.pdb_container.specs.PdbFile.{records, table_of}
use Rattle.pdb_container.specs.TypeRecords.{id_information, type_information}
use Rattle.pdb_container.specs.UnnamedCode.{named_modules}
use Rattle.pdb_file_laws.proofs.SameFrontLemmas.{front_same, places_same, streams_same}
use Rattle.pdb_file_laws.specs.SameFronts.{SameFronts}
use Rattle.pdb_repairs.specs.Repaired.{repaired, repaired_items, repaired_read, repaired_symbols}
use Rattle.pdb_known.proofs.AllReadLemmas.{part_of_itself}
use Rattle.pdb_known.specs.Known.{AreAlike, AreDefinedAlike, IsPartOf, Known, all_read}
use Rattle.pdb_session.proofs.ReadLemmas.{count_of_modules, modules_alone}
use Rattle.pdb_session.specs.FileParts.{AreAllOf, AreAt, AreIdsOf, AreModulesOf, AreTypesOf, BeginsAs, HasItems}
use Rattle.pdb_session.specs.FileParts.{HasNames, IsLeft, IsModuleOf, IsOpened, IsPartOfFile, IsReadFrom, IsReaderOf}
use Rattle.pdb_session.specs.FileParts.{ItemsOrFault, ReadsFile, all_or}
use Rattle.pdb_session.specs.FileParts.{first_information, with_all, with_ids, with_modules, with_types}
use Rattle.pdb_session.specs.declared.items_read.IdsRead.{IdsRead}
use Rattle.pdb_session.specs.declared.items_read.TypesRead.{TypesRead}
use Rattle.pdb_session.specs.declared.module_reads.ModuleRead.{ModuleRead}
use Rattle.pdb_session.specs.declared.type_lists.TypeLists.{TypeLists}

-- what was read of a file is a part of its records
pub part_of_file : (bytes : Option (List ℕ)) (mapped : MappedFile) (places : List PlaceOrFault) (lists : TypeLists)
    (known : Known) → ReadsFile bytes mapped places lists known → IsPartOfFile known bytes mapped.file_length
part_of_file None mapped places lists known reads = tt
part_of_file (Some file) mapped places lists known reads = λ long whole is.
    let reader : IsReaderOf file mapped places lists known = reads long in
    let msf : Msf = with_bytes file mapped in
    let same : records msf ≡ whole = ap (λ read. result_unwrap_or read (records msf))
    (sym (ap (λ (read : Result Msf ContainerError). read >>= λ msf. Ok (records msf)) reader.container) ∙ is) in
    subst (λ r. IsPartOf known (repaired r)) same reader.part

-- a list begins with the items that every list has
pub begins_as : {I D : Type 0} (meaning : ItemMeaning I D) (file : List ℕ) (list : Result (Option TypePlaces) StreamError)
    (whole : ItemsOrFault I D) → HasItems meaning file list whole
    → BeginsAs meaning file (result_unwrap_or list None) (first_information meaning list) whole
begins_as meaning file (Ok (Some places)) whole has = (refl, has)
begins_as meaning file (Ok None) whole has = sym has
begins_as meaning file (Err fault) whole has = sym has

-- items that are left are those at their places
pub are_at : {I D : Type 0} (meaning : ItemMeaning I D) (file : List ℕ) (places : Option TypePlaces)
    (part whole : ItemsOrFault I D) → IsLeft meaning file places part whole → AreAt meaning file places whole
are_at meaning file None part whole left = tt
are_at meaning file (Some places) part whole left = left

-- where all items were read, what is known of them is what the file has
all_read_of : {I D : Type 0} (meaning : ItemMeaning I D) (file : List ℕ) (places : Option TypePlaces)
    (part whole : ItemsOrFault I D) (read : Option (ItemInformation I D)) → IsLeft meaning file places part whole
    → AreAllOf places whole read → all_or read part ≡ whole
all_read_of meaning file None part whole None left all = left
all_read_of meaning file None part whole (Some items) left all = absurd all
all_read_of meaning file (Some places) part whole None left all = absurd all
all_read_of meaning file (Some places) part whole (Some items) left all = sym all

-- code is named by the symbols of the whole program up to their fault
same_names : (room : ℕ) (symbols : Result (Read Symbol) StreamError) (modules : List ModuleOrFault)
    → named_modules room (tabled (repaired_symbols (table_of symbols))) modules ≡ named_modules room symbols modules
unfolding named_modules
same_names room (Ok symbols) modules = refl
same_names room (Err fault) modules = refl

-- types that were read are alike
types_alike : (places : Option TypePlaces) (whole : ItemsOrFault TypeIndex TypeData) (read : TypesRead)
    → AreTypesOf places whole (Some read)
    → AreAlike (λ i. i.0) read.types (Ok read.information) whole
    × AreDefinedAlike read.sizes (Ok read.information) whole
types_alike None whole read are = absurd are
types_alike (Some places) whole read are = are

-- and the file has them at their places still
types_left : (file : List ℕ) (places : Option TypePlaces) (part new whole : ItemsOrFault TypeIndex TypeData)
    (read : TypesRead) → AreTypesOf places whole (Some read) → IsLeft types file places part whole
    → IsLeft types file places new whole
types_left file None part new whole read are left = absurd are
types_left file (Some places) part new whole read are left = left

-- ids that were read are alike
ids_alike : (places : Option TypePlaces) (whole : ItemsOrFault IdIndex IdData) (read : IdsRead)
    → AreIdsOf places whole (Some read) → AreAlike (λ i. i.0) read.ids (Ok read.information) whole
ids_alike None whole read are = absurd are
ids_alike (Some places) whole read are = are

-- and the file has them at their places still
ids_left : (file : List ℕ) (places : Option TypePlaces) (part new whole : ItemsOrFault IdIndex IdData) (read : IdsRead)
    → AreIdsOf places whole (Some read) → IsLeft ids file places part whole → IsLeft ids file places new whole
ids_left file None part new whole read are left = absurd are
ids_left file (Some places) part new whole read are left = left

-- what is known with types that were read is a part of the file
pub part_with_types : (file : List ℕ) (mapped : MappedFile) (places : List PlaceOrFault) (lists : TypeLists)
    (known : Known) (read : Option TypesRead) → known.all ≡ false → IsReaderOf file mapped places lists known
    → AreTypesOf lists.types.places (repaired_items (type_information (with_bytes file mapped))) read
    → IsReaderOf file mapped places lists (with_types known read)
part_with_types file mapped places lists known None some reader are = reader
part_with_types file mapped places lists known (Some read) some reader are =
    let whole : ItemsOrFault TypeIndex TypeData =
    repaired_items (type_information (with_bytes file mapped)) in
    record {
      container = reader.container;
      places = reader.places;
      types = types_left file lists.types.places known.records.type_information (Ok read.information) whole read are
          reader.types;
      ids = reader.ids;
      part = record {
        all = λ all. absurd (let no : true ≡ false = sym all ∙ some in cc);
        sections = reader.part.sections;
        address_map = reader.part.address_map;
        global_symbols = reader.part.global_symbols;
        debug_information = reader.part.debug_information;
        string_table = reader.part.string_table;
        modules = reader.part.modules;
        types = (types_alike lists.types.places whole read are).0;
        definitions = (types_alike lists.types.places whole read are).1;
        ids = reader.part.ids;
      };
    }

-- what is known with ids that were read is a part of the file
pub part_with_ids : (file : List ℕ) (mapped : MappedFile) (places : List PlaceOrFault) (lists : TypeLists)
    (known : Known) (read : Option IdsRead) → known.all ≡ false → IsReaderOf file mapped places lists known
    → AreIdsOf lists.ids.places (repaired_items (id_information (with_bytes file mapped))) read
    → IsReaderOf file mapped places lists (with_ids known read)
part_with_ids file mapped places lists known None some reader are = reader
part_with_ids file mapped places lists known (Some read) some reader are =
    let whole : ItemsOrFault IdIndex IdData =
    repaired_items (id_information (with_bytes file mapped)) in
    record {
      container = reader.container;
      places = reader.places;
      types = reader.types;
      ids = ids_left file lists.ids.places known.records.id_information (Ok read.information) whole read are reader.ids;
      part = record {
        all = λ all. absurd (let no : true ≡ false = sym all ∙ some in cc);
        sections = reader.part.sections;
        address_map = reader.part.address_map;
        global_symbols = reader.part.global_symbols;
        debug_information = reader.part.debug_information;
        string_table = reader.part.string_table;
        modules = reader.part.modules;
        types = reader.part.types;
        definitions = reader.part.definitions;
        ids = ids_alike lists.ids.places whole read are;
      };
    }

-- what is known with modules that were read is a part of the file
pub part_with_modules : (file : List ℕ) (mapped : MappedFile) (places : List PlaceOrFault) (lists : TypeLists)
    (known : Known) (marks : List Bool) (modules : List ModuleOrFault) → known.all ≡ false
    → IsReaderOf file mapped places lists known
    → AreModulesOf (map repaired_read (module_infos (with_bytes file mapped))) marks modules
    → IsReaderOf file mapped places lists (with_modules known marks modules)
part_with_modules file mapped places lists known marks modules some reader are = record {
  container = reader.container;
  places = reader.places;
  types = reader.types;
  ids = reader.ids;
  part = record {
    all = λ all. absurd (let no : true ≡ false = sym all ∙ some in cc);
    sections = reader.part.sections;
    address_map = reader.part.address_map;
    global_symbols = reader.part.global_symbols;
    debug_information = reader.part.debug_information;
    string_table = reader.part.string_table;
    modules = are;
    types = reader.part.types;
    definitions = reader.part.definitions;
    ids = reader.part.ids;
  };
}

-- reading types or ids alone leaves what counts as all
pub same_count : (known : Known) (types : Option TypesRead) (ids : Option IdsRead)
    → (with_ids (with_types known types) ids).all ≡ known.all
same_count known None None = refl
same_count known None (Some read) = refl
same_count known (Some read) None = refl
same_count known (Some read) (Some other) = refl

-- it also leaves the marks of modules
pub same_marks : (known : Known) (types : Option TypesRead) (ids : Option IdsRead)
    → (with_ids (with_types known types) ids).modules ≡ known.modules
same_marks known None None = refl
same_marks known None (Some read) = refl
same_marks known (Some read) None = refl
same_marks known (Some read) (Some other) = refl

-- records whose parts are equal
same_records : (a b : Records) → a.sections ≡ b.sections → a.address_map ≡ b.address_map
    → a.global_symbols ≡ b.global_symbols → a.debug_information ≡ b.debug_information
    → a.type_information ≡ b.type_information → a.id_information ≡ b.id_information
    → a.string_table ≡ b.string_table → a.module_infos ≡ b.module_infos → a ≡ b
same_records a b sections map_is symbols debug types ids strings modules =
    ap (λ x. record a { sections = x }) sections
    ∙ ap (λ x. record a { sections = b.sections; address_map = x }) map_is
    ∙ ap (λ x. record a { sections = b.sections; address_map = b.address_map; global_symbols = x }) symbols
    ∙ ap (λ x. record b {
      debug_information = x;
      type_information = a.type_information;
      id_information = a.id_information;
      string_table = a.string_table;
      module_infos = a.module_infos;
    }) debug
    ∙ ap (λ x. record b {
      type_information = x;
      id_information = a.id_information;
      string_table = a.string_table;
      module_infos = a.module_infos;
    }) types
    ∙ ap (λ x. record b {
      id_information = x;
      string_table = a.string_table;
      module_infos = a.module_infos;
    }) ids
    ∙ ap (λ x. record b { string_table = x; module_infos = a.module_infos }) strings
    ∙ ap (λ x. record b { module_infos = x }) modules

-- the modules at the places of a file, with the names of their code, are those of its records
pub modules_of_file : (file : List ℕ) (mapped : MappedFile) (places : List PlaceOrFault) (lists : TypeLists)
    (known : Known) → length file ≡ mapped.file_length → IsReaderOf file mapped places lists known
    → named_modules mapped.file_length (tabled known.records.global_symbols)
    (map (module_of (with_bytes file mapped)) places)
    ≡ module_infos (with_bytes file mapped)
unfolding module_infos modules_read
modules_of_file file mapped places lists known long reader =
    let msf : Msf = with_bytes file mapped in
    ap (λ room. named_modules room (tabled known.records.global_symbols) (map (module_of msf) places)) (sym long)
    ∙ ap (λ symbols. named_modules (length file) (tabled symbols) (map (module_of msf) places))
    reader.part.global_symbols
    ∙ ap (λ ps. named_modules (length file) (tabled (repaired_symbols (table_of (global_symbols msf))))
    (map (module_of msf) ps)) reader.places
    ∙ same_names (length file) (global_symbols msf) (map (module_of msf) (module_places msf (streams_of_modules msf)))

-- a file has as many modules as places for them
pub count_of_file : (file : List ℕ) (mapped : MappedFile) (places : List PlaceOrFault) (lists : TypeLists)
    (known : Known) → IsReaderOf file mapped places lists known
    → length places ≡ length (module_infos (with_bytes file mapped))
count_of_file file mapped places lists known reader =
    ap length reader.places ∙ sym (count_of_modules (with_bytes file mapped))

-- records with everything that was read are those of the file, repaired
all_of_file : (file : List ℕ) (mapped : MappedFile) (places : List PlaceOrFault) (lists : TypeLists) (known : Known)
    (types_read : Option (ItemInformation TypeIndex TypeData)) (ids_read : Option (ItemInformation IdIndex IdData))
    (modules : List ModuleOrFault) → length file ≡ mapped.file_length → IsReaderOf file mapped places lists known
    → AreAllOf lists.types.places (repaired_items (type_information (with_bytes file mapped))) types_read
    → AreAllOf lists.ids.places (repaired_items (id_information (with_bytes file mapped))) ids_read
    → modules ≡ map repaired_read (named_modules mapped.file_length (tabled known.records.global_symbols)
    (map (module_of (with_bytes file mapped)) places))
    → with_all known.records types_read ids_read modules ≡ repaired (records (with_bytes file mapped))
all_of_file file mapped places lists known types_read ids_read modules long reader all_types all_ids are =
    let msf : Msf = with_bytes file mapped in
    same_records (with_all known.records types_read ids_read modules) (repaired (records msf))
    reader.part.sections reader.part.address_map reader.part.global_symbols reader.part.debug_information
    (all_read_of types file lists.types.places known.records.type_information (repaired_items (type_information msf)) types_read
    reader.types all_types)
    (all_read_of ids file lists.ids.places known.records.id_information (repaired_items (id_information msf)) ids_read reader.ids
    all_ids)
    reader.part.string_table
    (are ∙ ap (map repaired_read) (modules_of_file file mapped places lists known long reader))

-- once everything was read, what is known is all of the file
pub all_is_part : (file : List ℕ) (mapped : MappedFile) (places : List PlaceOrFault) (lists emptied : TypeLists)
    (known new : Known) (types_read : Option (ItemInformation TypeIndex TypeData))
    (ids_read : Option (ItemInformation IdIndex IdData)) (modules : List ModuleOrFault)
    → length file ≡ mapped.file_length → IsReaderOf file mapped places lists known
    → AreAllOf lists.types.places (repaired_items (type_information (with_bytes file mapped))) types_read
    → AreAllOf lists.ids.places (repaired_items (id_information (with_bytes file mapped))) ids_read
    → modules ≡ map repaired_read (named_modules mapped.file_length (tabled known.records.global_symbols)
    (map (module_of (with_bytes file mapped)) places))
    → emptied.types.places ≡ None → emptied.ids.places ≡ None
    → new ≡ all_read (with_all known.records types_read ids_read modules)
    → IsReaderOf file mapped places emptied new
all_is_part file mapped places lists emptied known new types_read ids_read modules long reader all_types all_ids are
    no_types no_ids is =
    let msf : Msf = with_bytes file mapped in
    let same : with_all known.records types_read ids_read modules ≡ repaired (records msf) =
    all_of_file file mapped places lists known types_read ids_read modules long reader all_types all_ids are in
    subst (IsReaderOf file mapped places emptied) (sym is) (record {
      container = reader.container;
      places = reader.places;
      types = subst (λ places. IsLeft types file places (all_or types_read known.records.type_information)
          (repaired_items (type_information msf))) (sym no_types)
          (all_read_of types file lists.types.places known.records.type_information (repaired_items (type_information msf)) types_read
          reader.types all_types);
      ids = subst (λ places. IsLeft ids file places (all_or ids_read known.records.id_information)
          (repaired_items (id_information msf))) (sym no_ids)
          (all_read_of ids file lists.ids.places known.records.id_information (repaired_items (id_information msf)) ids_read
          reader.ids all_ids);
      part = subst (λ whole. IsPartOf (all_read (with_all known.records types_read ids_read modules)) whole) same
          (part_of_itself (with_all known.records types_read ids_read modules));
    })

-- what is known with modules, types and ids that were read is a part of the file
pub part_with_read : (file : List ℕ) (mapped : MappedFile) (places : List PlaceOrFault) (lists : TypeLists)
    (known new : Known) (types_read : Option TypesRead) (ids_read : Option IdsRead) (reads : List ModuleRead)
    → known.all ≡ false → IsReaderOf file mapped places lists known
    → AreTypesOf lists.types.places (repaired_items (type_information (with_bytes file mapped))) types_read
    → AreIdsOf lists.ids.places (repaired_items (id_information (with_bytes file mapped))) ids_read
    → All (IsReadFrom file mapped places) reads → All HasNames reads
    → new ≡ with_modules (with_ids (with_types known types_read) ids_read) new.modules new.records.module_infos
    → ((whole : List ModuleOrFault) → All (IsModuleOf whole) reads
    → AreModulesOf whole (with_ids (with_types known types_read) ids_read).modules
    (with_ids (with_types known types_read) ids_read).records.module_infos
    → AreModulesOf whole new.modules new.records.module_infos)
    → IsReaderOf file mapped places lists new
part_with_read file mapped places lists known new types_read ids_read reads some reader types_are ids_are from names is
    put =
    let msf : Msf = with_bytes file mapped in
    let whole : List ModuleOrFault = map repaired_read (module_infos msf) in
    let with_types_read : IsReaderOf file mapped places lists (with_types known types_read) =
    part_with_types file mapped places lists known types_read some reader types_are in
    let with_items : IsReaderOf file mapped places lists (with_ids (with_types known types_read) ids_read) =
    part_with_ids file mapped places lists (with_types known types_read) ids_read
    (same_count known types_read None ∙ some) with_types_read ids_are in
    subst (IsReaderOf file mapped places lists) (sym is)
    (part_with_modules file mapped places lists (with_ids (with_types known types_read) ids_read) new.modules
    new.records.module_infos (same_count known types_read ids_read ∙ some) with_items
    (put whole (modules_alone file mapped places reader.places reads from names) with_items.part.modules))

-- what was read of an excerpt with the front of a file is what the file has in its front
pub file_opened : (file : List ℕ) (mapped : MappedFile) (excerpt : Msf)
    (types_at ids_at : Result (Option TypePlaces) StreamError) (places : List PlaceOrFault) (lists : TypeLists) (read : Records) → length file ≡ mapped.file_length
    → container file ≡ Ok (with_bytes file mapped) → SameFronts excerpt (with_bytes file mapped)
    → HasItems types file types_at (type_information (with_bytes file mapped))
    → HasItems ids file ids_at (id_information (with_bytes file mapped))
    → places ≡ places_within excerpt mapped.file_length (streams_of_modules excerpt) → HasFront excerpt read
    → read.module_infos ≡ replicate (length places) (Ok None) → read.type_information ≡ first_information types types_at
    → read.id_information ≡ first_information ids ids_at → lists.types.places ≡ result_unwrap_or types_at None
    → lists.ids.places ≡ result_unwrap_or ids_at None → IsOpened file mapped places lists read
file_opened file mapped excerpt types_at ids_at places lists read long is same types_are ids_are places_are front unread
    first_types first_ids at_types at_ids =
    let msf : Msf = with_bytes file mapped in
    record {
      container = is;
      places = places_are
          ∙ places_same excerpt msf same mapped.file_length (streams_of_modules excerpt)
          ∙ ap (λ streams. places_within msf mapped.file_length streams) (streams_same excerpt msf same)
          ∙ ap (λ left. places_within msf left (streams_of_modules msf)) (sym long);
      unread = unread;
      front = front_same excerpt msf read same front;
      types = subst (λ at. BeginsAs types file at read.type_information (type_information msf)) (sym at_types)
          (subst (λ first. BeginsAs types file (result_unwrap_or types_at None) first (type_information msf))
          (sym first_types) (begins_as types file types_at (type_information msf) types_are));
      ids = subst (λ at. BeginsAs ids file at read.id_information (id_information msf)) (sym at_ids)
          (subst (λ first. BeginsAs ids file (result_unwrap_or ids_at None) first (id_information msf))
          (sym first_ids) (begins_as ids file ids_at (id_information msf) ids_are));
    }
