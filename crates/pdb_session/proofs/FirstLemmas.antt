-- What is known of a file at first, before any module, type or id was read, is a part of its records.
use Rattle.std.proofs.Common.{◌≡◌, ◌∙◌, ℕ, zero, suc, ◌+◌, ◌<◌, ◌≤◌, ◌⊎◌, inl, inr, Bool, true, false, List, [], ◌∷◌}
use Rattle.std.proofs.Common.{◌++◌, ◌-◌, map, take, append-nil, Option, Some, None, Ok, length, refl, sym, ap, subst, arith}
use Rattle.std.proofs.lemmas.List.{get_or-replicate, length-map, length-replicate}
use Rattle.std.proofs.lemmas.Option.{slice_get_past, slice_get-get_or}
use Rattle.std.specs.Prelude.{replicate, slice_get, unwrap_or}
use Rattle.pdb_records.specs.Records.{Records}
use Rattle.pdb_records.specs.declared.types.TypeData.{TypeData}
use Rattle.pdb_records.specs.declared.types.TypeIndex.{TypeIndex}
use Rattle.pdb_msf.specs.Msf.{Msf}
use Rattle.pdb_msf.specs.MsfLayout.{MappedFile, with_bytes}
use Rattle.pdb_tpi.specs.IdLeaves.{ids}
use Rattle.pdb_tpi.specs.ItemStreams.{ItemMeaning, TypeList, item_of, list_items}
use Rattle.pdb_tpi.specs.TypePlaces.{list_at}
use Rattle.pdb_tpi.specs.TypeRecords.{TypeBytes}
use Rattle.pdb_tpi.specs.TypeLeaves.{types}
use Rattle.pdb_tpi.specs.declared.type_places.TypePlaces.{TypePlaces}
use Rattle.pdb_container.specs.DebugRecords.{module_infos, sections}
use Rattle.pdb_container.specs.ModulePlaces.{ModuleOrFault, PlaceOrFault}
use Rattle.pdb_container.specs.TypeRecords.{id_information, type_information}
use Rattle.pdb_repairs.specs.Repaired.{repaired, repaired_debug_information, repaired_items, repaired_read}
use Rattle.pdb_repairs.specs.Repaired.{repaired_symbols, repairs_from, repairs_of, repairs_of_debug_information}
use Rattle.pdb_repairs.specs.Repaired.{repairs_of_front, repairs_of_symbols, told, unread_fault}
use Rattle.pdb_repairs.specs.declared.repairs.Repair.TheVariants.{NoIds, NoTypes}
use Rattle.pdb_container.specs.PdbFile.{records}
use Rattle.pdb_known.proofs.AllReadLemmas.{alike_itself, defined_itself}
use Rattle.pdb_known.specs.Known.{AreAlike, AreDefinedAlike}
use Rattle.pdb_session.proofs.MarkedLemmas.{alike_where_marked, defined_where_marked}
use Rattle.pdb_session.proofs.ReadLemmas.{count_of_modules, nothing_behind, within_or_behind}
use Rattle.pdb_session.specs.FileParts.{BeginsAs, HasItemsAt, IsLeft, IsOpened, IsReaderOf, ItemsOrFault, OpensFile}
use Rattle.pdb_session.specs.FileParts.{ReadsFile, first_information, first_known, nothing_read}
use Rattle.pdb_session.proofs.ItemsReadLemmas.{count_of_places}
use Rattle.pdb_session.specs.MarkedItems.{marked_from, marked_items}
use Rattle.pdb_session.specs.declared.type_lists.TypeLists.{TypeLists}

-- none of marks that aren't set is set
no_mark : (count position : ℕ) → slice_get (replicate count false) position ≡ Some true → ⊥
no_mark count position set = by_place (within_or_behind position count) where
  by_place : (position < count) ⊎ (count ≤ position) → ⊥
  by_place (inl within) =
      let there : slice_get (replicate count false) position ≡ Some false =
      slice_get-get_or (replicate count false) position false (omega (arith, within, length-replicate count false))
      ∙ ap Some (get_or-replicate count position false false within) in
      let no : Some false ≡ Some true = sym there ∙ set in
      cc
  by_place (inr past) =
      let there : slice_get (replicate count false) position ≡ None =
      slice_get_past (replicate count false) position (omega (arith, past, length-replicate count false)) in
      let no : None ≡ Some true = sym there ∙ set in
      cc

-- a mark that is set where none is lies after them
pub set_behind : (count position : ℕ) → unwrap_or (slice_get (replicate count false) position) true ≡ true
    → count ≤ position
set_behind count position set = by_place (within_or_behind position count) where
  by_place : (position < count) ⊎ (count ≤ position) → count ≤ position
  by_place (inl within) =
      let there : slice_get (replicate count false) position ≡ Some false =
      slice_get-get_or (replicate count false) position false (omega (arith, within, length-replicate count false))
      ∙ ap Some (get_or-replicate count position false false within) in
      let no : false ≡ true = sym (ap (λ (found : Option Bool). unwrap_or found true) there) ∙ set in
      absurd cc
  by_place (inr past) = past

-- no item is marked by marks that aren't set
none_marked : {A : Type 0} (item : ℕ → TypeBytes → A) (position count : ℕ) (list : List TypeBytes)
    → marked_from item position (replicate count false) list ≡ []
none_marked item position count [] = refl
none_marked item position zero (bytes ∷ rest) = refl
none_marked item position (suc count) (bytes ∷ rest) = none_marked item (position + 1) count rest

-- so the items are those that every list has
first_marked : {I D : Type 0} (meaning : ItemMeaning I D) (list : TypeList) (count : ℕ)
    → marked_items meaning list (replicate count false)
    ≡ record { items = record { items = meaning.first; fault = list.fault } }
first_marked meaning list count =
    ap (λ items. record { items = record { items = items; fault = list.fault } })
    (ap (λ marked. meaning.first ++ marked) (none_marked (item_of meaning list.first) 0 count list.records)
    ∙ append-nil meaning.first)

-- there are as many marks as records
count_of_records : (places : TypePlaces) (stream : List ℕ)
    → length (replicate (length places.starts.items) false) ≡ length (list_at places stream).records
count_of_records places stream =
    length-replicate (length places.starts.items) false ∙ count_of_places places stream

-- the items that a list begins with are alike in the whole
first_alike : {I D : Type 0} (number_of : I → ℕ) (meaning : ItemMeaning I D)
    → ((n : ℕ) → number_of (meaning.index n) ≡ n) → (file : List ℕ) (places : TypePlaces)
    (whole : ItemsOrFault I D) → HasItemsAt meaning file places whole
    → AreAlike number_of (nothing_read (Some places)) (first_information meaning (Ok (Some places))) whole
first_alike number_of meaning numbered file places whole has =
    let list : TypeList = list_at places has.stream in
    let count : ℕ = length places.starts.items in
    subst (λ w. AreAlike number_of (nothing_read (Some places)) (first_information meaning (Ok (Some places))) w)
    (sym has.items)
    (subst (λ part. AreAlike number_of (nothing_read (Some places)) (Ok part) (Ok (list_items meaning list)))
    (first_marked meaning list count)
    (alike_where_marked number_of meaning numbered list (replicate count false)
    (count_of_records places has.stream)))

-- and no size is known
first_defined : (file : List ℕ) (places : TypePlaces) (whole : ItemsOrFault TypeIndex TypeData)
    → HasItemsAt types file places whole
    → AreDefinedAlike (nothing_read (Some places)) (first_information types (Ok (Some places))) whole
first_defined file places whole has =
    let list : TypeList = list_at places has.stream in
    let count : ℕ = length places.starts.items in
    let marks : List Bool = replicate count false in
    subst (λ w. AreDefinedAlike (nothing_read (Some places)) (first_information types (Ok (Some places))) w)
    (sym has.items)
    (subst (λ part. AreDefinedAlike (nothing_read (Some places)) (Ok part) (Ok (list_items types list)))
    (first_marked types list count)
    (defined_where_marked list marks marks (count_of_records places has.stream) (count_of_records places has.stream)
    (record {
      marked = λ position set. absurd (no_mark count position set);
      defined = λ position item name set is named other definition found defines. absurd (no_mark count position set);
    })))

-- a list begins alike
begins_alike : {I D : Type 0} (number_of : I → ℕ) (meaning : ItemMeaning I D)
    → ((n : ℕ) → number_of (meaning.index n) ≡ n) → (file : List ℕ) (places : Option TypePlaces)
    (part whole : ItemsOrFault I D) → BeginsAs meaning file places part whole
    → AreAlike number_of (nothing_read places) part whole
begins_alike number_of meaning numbered file None part whole begins =
    subst (AreAlike number_of (nothing_read None) part) begins (alike_itself number_of (nothing_read None) part)
begins_alike number_of meaning numbered file (Some places) part whole begins =
    subst (λ p. AreAlike number_of (nothing_read (Some places)) p whole) (sym begins.0)
    (first_alike number_of meaning numbered file places whole begins.1)

-- and with no size known
begins_defined : (file : List ℕ) (places : Option TypePlaces) (part whole : ItemsOrFault TypeIndex TypeData)
    → BeginsAs types file places part whole → AreDefinedAlike (nothing_read places) part whole
begins_defined file None part whole begins =
    subst (AreDefinedAlike (nothing_read None) part) begins (defined_itself (nothing_read None) part)
begins_defined file (Some places) part whole begins =
    subst (λ p. AreDefinedAlike (nothing_read (Some places)) p whole) (sym begins.0)
    (first_defined file places whole begins.1)

-- what a list begins with is what is left of it
begins_left : {I D : Type 0} (meaning : ItemMeaning I D) (file : List ℕ) (places : Option TypePlaces)
    (part whole : ItemsOrFault I D) → BeginsAs meaning file places part whole → IsLeft meaning file places part whole
begins_left meaning file None part whole begins = begins
begins_left meaning file (Some places) part whole begins = begins.1

-- places of a list stay those of the list that is repaired, since it can be read
has_repaired : {I D : Type 0} (meaning : ItemMeaning I D) (file : List ℕ) (places : TypePlaces)
    (whole : ItemsOrFault I D) → HasItemsAt meaning file places whole
    → HasItemsAt meaning file places (repaired_items whole)
has_repaired meaning file places whole has = record {
  stream = has.stream;
  said = has.said;
  lies = has.lies;
  items = ap repaired_items has.items;
}

-- a list that begins as every list begins so once it is repaired
begins_repaired : {I D : Type 0} (meaning : ItemMeaning I D) (file : List ℕ) (places : Option TypePlaces)
    (part whole : ItemsOrFault I D) → BeginsAs meaning file places part whole
    → BeginsAs meaning file places (repaired_items part) (repaired_items whole)
begins_repaired meaning file None part whole begins = ap repaired_items begins
begins_repaired meaning file (Some places) part whole begins =
    (ap repaired_items begins.0, has_repaired meaning file places whole begins.1)

-- what is known of a file at first is a part of it, without what is broken in its front
opened_is_part : (file : List ℕ) (mapped : MappedFile) (places : List PlaceOrFault) (lists : TypeLists)
    (read : Records) → IsOpened file mapped places lists read
    → IsReaderOf file mapped places lists (first_known (repaired read) places lists)
opened_is_part file mapped places lists read opened =
    let msf : Msf = with_bytes file mapped in
    let of_types = begins_repaired types file lists.types.places read.type_information (type_information msf)
    opened.types in
    let of_ids = begins_repaired ids file lists.ids.places read.id_information (id_information msf) opened.ids in
    record {
      container = opened.container;
      places = opened.places;
      types = begins_left types file lists.types.places (repaired_items read.type_information)
          (repaired_items (type_information msf)) of_types;
      ids = begins_left ids file lists.ids.places (repaired_items read.id_information)
          (repaired_items (id_information msf)) of_ids;
      part = record {
        all = λ all. absurd cc;
        sections = opened.front.0;
        address_map = opened.front.1;
        global_symbols = ap repaired_symbols opened.front.2;
        debug_information =
            ap (λ headers. repaired_debug_information headers read.debug_information) opened.front.0
            ∙ ap (repaired_debug_information (sections msf)) opened.front.3;
        string_table = opened.front.4;
        modules = λ position marked.
            let behind : (length places ≤ position) = set_behind (length places) position marked in
            nothing_behind (map repaired_read read.module_infos) position
            (omega (
              arith,
              behind,
              length-map read.module_infos repaired_read,
              ap length opened.unread,
              length-replicate {A = ModuleOrFault} (length places) (Ok None),
            ))
            ∙ sym (nothing_behind (map repaired_read (module_infos msf)) position
            (omega (
              arith,
              behind,
              length-map (module_infos msf) repaired_read,
              count_of_modules msf,
              ap length opened.places,
            )));
        types = begins_alike (λ i. i.0) types (λ n. refl) file lists.types.places
            (repaired_items read.type_information) (repaired_items (type_information msf)) of_types;
        definitions = begins_defined file lists.types.places (repaired_items read.type_information)
            (repaired_items (type_information msf)) of_types;
        ids = begins_alike (λ i. i.0) ids (λ n. refl) file lists.ids.places (repaired_items read.id_information)
            (repaired_items (id_information msf)) of_ids;
      };
    }

-- nothing is broken in modules that weren't read
no_repairs_from : (position count : ℕ) → repairs_from position (replicate count (Ok None)) ≡ []
no_repairs_from position zero = refl
no_repairs_from position (suc count) = no_repairs_from (position + 1) count

-- what was read at first of types or ids has the fault that they have
fault_begins : {I D : Type 0} (meaning : ItemMeaning I D) (file : List ℕ) (places : Option TypePlaces)
    (part whole : ItemsOrFault I D) → BeginsAs meaning file places part whole → unread_fault part ≡ unread_fault whole
fault_begins meaning file None part whole begins = ap unread_fault begins
fault_begins meaning file (Some places) part whole begins =
    ap unread_fault begins.0 ∙ sym (ap unread_fault begins.1.items)

-- the repairs of what was read at first are those of the file's records other than its modules
pub opened_repairs : (file : List ℕ) (mapped : MappedFile) (places : List PlaceOrFault) (lists : TypeLists)
    (read : Records) → IsOpened file mapped places lists read
    → repairs_of read ≡ repairs_of_front (records (with_bytes file mapped))
opened_repairs file mapped places lists read opened =
    let msf : Msf = with_bytes file mapped in
    ap (λ modules. repairs_of_front read ++ repairs_from 0 modules) opened.unread
    ∙ ap (λ more. repairs_of_front read ++ more) (no_repairs_from 0 (length places))
    ∙ append-nil (repairs_of_front read)
    ∙ ap (λ symbols. repairs_of_front (record read { global_symbols = symbols })) opened.front.2
    ∙ ap (λ fault. repairs_of_symbols (records msf).global_symbols ++ told NoTypes fault
    ++ told NoIds (unread_fault read.id_information)
    ++ repairs_of_debug_information read.sections read.debug_information)
    (fault_begins types file lists.types.places read.type_information (type_information msf) opened.types)
    ∙ ap (λ fault. repairs_of_symbols (records msf).global_symbols
    ++ told NoTypes (unread_fault (type_information msf)) ++ told NoIds fault
    ++ repairs_of_debug_information read.sections read.debug_information)
    (fault_begins ids file lists.ids.places read.id_information (id_information msf) opened.ids)
    ∙ ap (λ headers. repairs_of_front (record (records msf) {
      sections = headers;
      debug_information = read.debug_information;
    })) opened.front.0
    ∙ ap (λ debug. repairs_of_front (record (records msf) { debug_information = debug })) opened.front.3

-- an empty list has no first elements
take_none : (count : ℕ) → take {A = Bool} count [] ≡ []
take_none zero = refl
take_none (suc count) = refl

-- an empty list of marks that was made so long has that many marks that aren't set
pub resized : (items old : List Bool) (old_length asked count : ℕ)
    → items ≡ take asked old ++ replicate (asked - old_length) false → old ≡ [] → old_length ≡ 0 → asked ≡ count
    → items ≡ replicate count false
resized items old old_length asked count is none short same =
    let whole : asked - old_length ≡ count = omega (arith, short, same) in
    is ∙ ap (λ old. take asked old ++ replicate (asked - old_length) false) none
    ∙ ap (λ first. first ++ replicate (asked - old_length) false) (take_none asked)
    ∙ ap (λ left. replicate left false) whole

-- the same of the file that a source says
pub opened_reads_file : (bytes : Option (List ℕ)) (mapped : MappedFile) (places : List PlaceOrFault)
    (lists : TypeLists) (read : Records) → OpensFile bytes mapped places lists read
    → ReadsFile bytes mapped places lists (first_known (repaired read) places lists)
opened_reads_file None mapped places lists read opens = tt
opened_reads_file (Some file) mapped places lists read opens =
    λ long. opened_is_part file mapped places lists read (opens long)
