-- A session's layout of its file (the streams of modules, types and ids), and the law that what it read is a part of
-- the file's records.
use Rattle.std.specs.Prelude.{◌≡◌, ℕ, Bool, true, false, List, [], length, replicate, Option, Some, None, Result, Ok, Err, slice_get}
use Rattle.std.specs.Prelude.{unwrap_or}
use Rattle.pdb_records.specs.Records.{Records}
use Rattle.pdb_records.specs.declared.error.StreamError.{StreamError}
use Rattle.pdb_records.specs.declared.ids.IdData.{IdData}
use Rattle.pdb_records.specs.declared.ids.IdIndex.{IdIndex}
use Rattle.pdb_records.specs.declared.types.ItemInformation.{ItemInformation}
use Rattle.pdb_records.specs.declared.types.TypeData.{TypeData}
use Rattle.pdb_records.specs.declared.types.TypeIndex.{TypeIndex}
use Rattle.pdb_msf.specs.Msf.{container}
use Rattle.pdb_msf.specs.Faults.{◌>>=◌}
use Rattle.pdb_msf.specs.StreamBlocks.{BlockList, blocks_read, said_in}
use Rattle.pdb_msf.specs.MsfLayout.{IfFile, MappedFile, with_bytes}
use Rattle.pdb_tpi.specs.IdLeaves.{ids}
use Rattle.pdb_tpi.specs.ItemStreams.{ItemMeaning, TypeList, list_items, type_list}
use Rattle.pdb_tpi.specs.TypePlaces.{LieIn, list_at}
use Rattle.pdb_tpi.specs.TypeLeaves.{types}
use Rattle.pdb_tpi.specs.declared.type_places.TypePlaces.{TypePlaces}
use Rattle.pdb_container.specs.DebugRecords.{streams_of_modules}
use Rattle.pdb_container.specs.ModulePlaces.{ModuleOrFault, PlaceOrFault, module_of, module_places, place_at}
use Rattle.pdb_container.specs.Front.{HasFront}
use Rattle.pdb_container.specs.FunctionsByStart.{symbols_of}
use Rattle.pdb_container.specs.PdbFile.{records, records_of}
use Rattle.pdb_container.specs.PdbFileError.{code_refusal, reason_of}
use Rattle.pdb_container.specs.TypeRecords.{id_information, type_information}
use Rattle.pdb_container.specs.UnnamedCode.{separated_from}
use Rattle.pdb_repairs.specs.Repaired.{repaired, repaired_items, repaired_read, repairs_of_read}
use Rattle.pdb_known.specs.Known.{AreAlike, AreDefinedAlike, IsPartOf, Known, Span, all_read}
use Rattle.pdb_session.specs.declared.items_read.IdsRead.{IdsRead}
use Rattle.pdb_session.specs.declared.items_read.TypesRead.{TypesRead}
use Rattle.pdb_session.specs.declared.module_reads.ModuleRead.{ModuleRead}
use Rattle.pdb_session.specs.declared.session_error.SessionError.{SessionError}
use Rattle.pdb_session.specs.declared.session_error.SessionError.TheVariants as session
use Rattle.pdb_session.specs.declared.type_lists.TypeLists.{TypeLists}

-- types or ids, or the fault by which they can't be read
abbrev pub ItemsOrFault : Type 0 → Type 0 → Type 0
ItemsOrFault I D = Result (ItemInformation I D) StreamError

-- a stream of the file has records at these places, and `whole` is their list
pub record HasListAt (file : List ℕ) (places : TypePlaces) (whole : Result TypeList StreamError) : Type 0 where
  pub stream : List ℕ
  pub said : said_in (Some file) places.records.blocks ≡ Some stream
  pub lies : LieIn places stream
  pub list : whole ≡ Ok (list_at places stream)

-- a stream of the file has records at these places, and `whole` has its items
pub record HasItemsAt {I D : Type 0} (meaning : ItemMeaning I D) (file : List ℕ) (places : TypePlaces)
    (whole : ItemsOrFault I D) : Type 0 where
  pub stream : List ℕ
  pub said : said_in (Some file) places.records.blocks ≡ Some stream
  pub lies : LieIn places stream
  pub items : whole ≡ Ok (list_items meaning (list_at places stream))

-- `whole` has the types or ids of the file: those at its places; without places, only the items that every list has; or
-- the fault of the places
abbrev pub HasItems : {I D : Type 0} → ItemMeaning I D → List ℕ → Result (Option TypePlaces) StreamError
    → ItemsOrFault I D → Type 0
HasItems meaning file (Ok (Some places)) whole = HasItemsAt meaning file places whole
HasItems meaning file (Ok None) whole =
    whole ≡ Ok (record { items = record { items = meaning.first; fault = None } })
HasItems meaning file (Err fault) whole = whole ≡ Err fault

-- `whole` is the file's list of records at its places, or the fault of the places
abbrev pub HasPlaces : List ℕ → Result (Option TypePlaces) StreamError → Result TypeList StreamError → Type 0
HasPlaces file (Ok (Some places)) whole = HasListAt file places whole
HasPlaces file (Ok None) whole = ⊥
HasPlaces file (Err fault) whole = whole ≡ Err fault

-- the list in the stream of the file with these blocks, or why it can't be read
abbrev pub listed_in : List ℕ → Result BlockList StreamError → Result TypeList StreamError
listed_in file blocks = blocks_read file blocks >>= type_list

-- the span of a list's entries before any was read: none of them is marked
abbrev pub nothing_read : Option TypePlaces → Span
nothing_read None = record { first = 0; read = [] }
nothing_read (Some places) = record {
  first = places.first;
  read = replicate (length places.starts.items) false;
}

-- the items of a list before any record of its stream was read: those that every list begins with
abbrev pub first_information : {I D : Type 0} → ItemMeaning I D → Result (Option TypePlaces) StreamError
    → ItemsOrFault I D
first_information meaning (Ok (Some places)) =
    Ok (record { items = record { items = meaning.first; fault = places.starts.fault } })
first_information meaning (Ok None) = Ok (record { items = record { items = meaning.first; fault = None } })
first_information meaning (Err fault) = Err fault

-- `whole` has the items at these places of the file, which are still to be read; without places, `part` has them all
abbrev pub IsLeft : {I D : Type 0} → ItemMeaning I D → List ℕ → Option TypePlaces → ItemsOrFault I D
    → ItemsOrFault I D → Type 0
IsLeft meaning file None part whole = part ≡ whole
IsLeft meaning file (Some places) part whole = HasItemsAt meaning file places whole

-- `part` has only the items that every list begins with if the file has more at these places; without places, it has
-- all
abbrev pub BeginsAs : {I D : Type 0} → ItemMeaning I D → List ℕ → Option TypePlaces → ItemsOrFault I D
    → ItemsOrFault I D → Type 0
BeginsAs meaning file None part whole = part ≡ whole
BeginsAs meaning file (Some places) part whole =
    (part ≡ first_information meaning (Ok (Some places))) × HasItemsAt meaning file places whole

-- if there are places, `whole` has the items at them
abbrev pub AreAt : {I D : Type 0} → ItemMeaning I D → List ℕ → Option TypePlaces → ItemsOrFault I D → Type 0
AreAt meaning file None whole = Unit {0}
AreAt meaning file (Some places) whole = HasItemsAt meaning file places whole

-- the types that were read agree with those of the file where they are marked; without places, none were read
abbrev pub AreTypesOf : Option TypePlaces → ItemsOrFault TypeIndex TypeData → Option TypesRead → Type 0
AreTypesOf None whole None = Unit {0}
AreTypesOf None whole (Some read) = ⊥
AreTypesOf (Some places) whole None = Unit {0}
AreTypesOf (Some places) whole (Some read) =
    AreAlike (λ i. i.0) read.types (Ok read.information) whole
    × AreDefinedAlike read.sizes (Ok read.information) whole

-- the ids that were read agree with those of the file where they are marked; without places, none were read
abbrev pub AreIdsOf : Option TypePlaces → ItemsOrFault IdIndex IdData → Option IdsRead → Type 0
AreIdsOf None whole None = Unit {0}
AreIdsOf None whole (Some read) = ⊥
AreIdsOf (Some places) whole None = Unit {0}
AreIdsOf (Some places) whole (Some read) = AreAlike (λ i. i.0) read.ids (Ok read.information) whole

-- the items of the whole list, which were read at its places, are those of the file; without places, nothing was read
abbrev pub AreAllOf : {I D : Type 0} → Option TypePlaces → ItemsOrFault I D → Option (ItemInformation I D) → Type 0
AreAllOf None whole None = Unit {0}
AreAllOf None whole (Some items) = ⊥
AreAllOf (Some places) whole None = ⊥
AreAllOf (Some places) whole (Some items) = whole ≡ Ok items

-- these items if there are any, otherwise the items of `part`
abbrev pub all_or : {I D : Type 0} → Option (ItemInformation I D) → ItemsOrFault I D → ItemsOrFault I D
all_or None part = part
all_or (Some items) part = Ok items

-- what was read, with these types if they were read
abbrev pub with_types : Known → Option TypesRead → Known
with_types known None = known
with_types known (Some read) = record known {
  records = record known.records { type_information = Ok read.information };
  types = read.types;
  sizes = read.sizes;
}

-- what was read, with these ids if they were read
abbrev pub with_ids : Known → Option IdsRead → Known
with_ids known None = known
with_ids known (Some read) = record known {
  records = record known.records { id_information = Ok read.information };
  ids = read.ids;
}

-- what was read, with these modules; the marks tell which of them were read
abbrev pub with_modules : Known → List Bool → List ModuleOrFault → Known
with_modules known marks modules = record known {
  records = record known.records { module_infos = modules };
  modules = marks;
}

-- records with all modules, and with all types and ids if these can be read
abbrev pub with_all : Records → Option (ItemInformation TypeIndex TypeData) → Option (ItemInformation IdIndex IdData)
    → List ModuleOrFault → Records
with_all records types ids modules = record records {
  type_information = all_or types records.type_information;
  id_information = all_or ids records.id_information;
  module_infos = modules;
}

-- a module was read from its own stream and repaired, and these are its repairs
pub record IsReadFrom (file : List ℕ) (mapped : MappedFile) (places : List PlaceOrFault) (read : ModuleRead)
    : Type 0 where
  pub info : read.info ≡ repaired_read (module_of (with_bytes file mapped) (place_at places read.position))
  pub repairs : read.repairs.items
      ≡ repairs_of_read read.position (module_of (with_bytes file mapped) (place_at places read.position))

-- all code of a module that was read has a name
abbrev pub HasNames : ModuleRead → Type 0
HasNames read = separated_from 0 None (symbols_of read.info) ≡ []

-- the records of the module at a position; `None` after the last module
abbrev pub module_in : List ModuleOrFault → ℕ → ModuleOrFault
module_in modules position = unwrap_or (slice_get modules position) (Ok None)

-- a module that was read is the one at its position
abbrev pub IsModuleOf : List ModuleOrFault → ModuleRead → Type 0
IsModuleOf whole read = module_in whole read.position ≡ read.info

-- the repairs that were read with a module are those of the module at its position
abbrev pub HasRepairsOf : List ModuleOrFault → ModuleRead → Type 0
HasRepairsOf whole read = read.repairs.items ≡ repairs_of_read read.position (module_in whole read.position)

-- both lists have the same records for each marked module
abbrev pub AreModulesOf : List ModuleOrFault → List Bool → List ModuleOrFault → Type 0
AreModulesOf whole marks modules = (position : ℕ) → unwrap_or (slice_get marks position) true ≡ true
    → module_in modules position ≡ module_in whole position

-- the file is this container, with modules, types and ids at these places. The records have all else of the file; of
-- types and ids they have what every list begins with
pub record IsOpened (file : List ℕ) (mapped : MappedFile) (at : List PlaceOrFault) (lists : TypeLists)
    (read : Records) : Type 0 where
  pub container : container file ≡ Ok (with_bytes file mapped)
  pub places : at ≡ module_places (with_bytes file mapped) (streams_of_modules (with_bytes file mapped))
  pub unread : read.module_infos ≡ replicate (length at) (Ok None)
  pub front : HasFront (with_bytes file mapped) read
  pub types : BeginsAs types file lists.types.places read.type_information
      (type_information (with_bytes file mapped))
  pub ids : BeginsAs ids file lists.ids.places read.id_information (id_information (with_bytes file mapped))

-- the file is this container, with modules, types and ids at these places. What was read is a part of its repaired
-- records
pub record IsReaderOf (file : List ℕ) (mapped : MappedFile) (at : List PlaceOrFault) (lists : TypeLists)
    (known : Known) : Type 0 where
  pub container : container file ≡ Ok (with_bytes file mapped)
  pub places : at ≡ module_places (with_bytes file mapped) (streams_of_modules (with_bytes file mapped))
  pub types : IsLeft types file lists.types.places known.records.type_information
      (repaired_items (type_information (with_bytes file mapped)))
  pub ids : IsLeft ids file lists.ids.places known.records.id_information
      (repaired_items (id_information (with_bytes file mapped)))
  pub part : IsPartOf known (repaired (records (with_bytes file mapped)))

-- what was read is a part of the source's file, if the source has a model of its bytes and these have the right length
abbrev pub ReadsFile : Option (List ℕ) → MappedFile → List PlaceOrFault → TypeLists → Known → Type 0
ReadsFile bytes mapped places lists known =
    IfFile bytes mapped.file_length (λ file. IsReaderOf file mapped places lists known)

-- the records are those of the source's file after opening, if the source has a model of its bytes and these have the
-- right length
abbrev pub OpensFile : Option (List ℕ) → MappedFile → List PlaceOrFault → TypeLists → Records → Type 0
OpensFile bytes mapped places lists read =
    IfFile bytes mapped.file_length (λ file. IsOpened file mapped places lists read)

-- what is known after opening: no module, type or id was read
abbrev pub first_known : Records → List PlaceOrFault → TypeLists → Known
first_known read places lists = record {
  records = read;
  all = false;
  modules = replicate (length places) false;
  types = nothing_read lists.types.places;
  sizes = nothing_read lists.types.places;
  ids = nothing_read lists.ids.places;
}

-- if everything counts as read, each part is marked as read
abbrev pub IsWhole : Known → Type 0
IsWhole known = known.all ≡ true → known ≡ all_read known.records

-- if opening is refused for the records of the file, then the file's records are refused for the same reason, even if
-- their public symbols, types and ids can be read. It holds if the source has a model of the file's bytes and these
-- have the right length
abbrev pub RefusesFile : {T : Type 0} → Result T SessionError → Option (List ℕ) → ℕ → Type 0
RefusesFile (Err (session.Refused refusal)) bytes file_length = IfFile bytes file_length (λ file. (whole : Records)
    → records_of file ≡ Ok whole → code_refusal whole ≡ Some (reason_of refusal))
RefusesFile (Err (session.File error)) bytes file_length = Unit {0}
RefusesFile (Err (session.Records error)) bytes file_length = Unit {0}
RefusesFile (Ok opened) bytes file_length = Unit {0}

-- what was read is a part of the repaired records of the file, if the source has a model of the file's bytes and these
-- have the right length
abbrev pub IsPartOfFile : Known → Option (List ℕ) → ℕ → Type 0
IsPartOfFile known bytes file_length = IfFile bytes file_length (λ file. (whole : Records) → records_of file ≡ Ok whole
    → IsPartOf known (repaired whole))
