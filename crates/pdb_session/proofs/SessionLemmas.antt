-- The repairs that calls of a session return, and those that they leave.
use Rattle.std.proofs.Common.{◌≡◌, ◌∙◌, ℕ, ◌≤◌, arith, map, Bool, true, false, List, []}
use Rattle.std.proofs.Common.{Option, Some, None, Result, Ok, length, refl, sym, ap, subst}
use Rattle.std.specs.Global.{Vec}
use Rattle.std.specs.Option.{option_and_then, option_map_or}
use Rattle.std.specs.Prelude.{IfSome, if◌then◌else◌, replicate, slice_get, unwrap_or}
use Rattle.std.proofs.lemmas.Option.{slice_get_past}
use Rattle.std.specs.Result.{result_unwrap_or}
use Rattle.pdb_records.specs.Records.{Records}
use Rattle.pdb_records.specs.declared.addresses.AddressRange.{AddressRange}
use Rattle.pdb_records.specs.declared.addresses.ImageSectionHeader.{ImageSectionHeader}
use Rattle.pdb_records.specs.declared.debug_information.DebugInformation.{DebugInformation}
use Rattle.pdb_records.specs.declared.error.StreamError.{StreamError}
use Rattle.pdb_msf.specs.Faults.{◌>>=◌}
use Rattle.pdb_msf.specs.Msf.{Msf, container}
use Rattle.pdb_msf.specs.MsfLayout.{IfFile, MappedFile, with_bytes}
use Rattle.pdb_msf.specs.declared.container_error.ContainerError.{ContainerError}
use Rattle.pdb_container.specs.DebugRecords.{module_infos}
use Rattle.pdb_container.specs.Front.{SameFront}
use Rattle.pdb_container.specs.ModulePlaces.{ModuleOrFault, PlaceOrFault}
use Rattle.pdb_container.specs.PdbFile.{records, records_of}
use Rattle.pdb_repairs.specs.declared.repairs.Repair.{Repair}
use Rattle.pdb_known.specs.Known.{Known, all_read, is_read}
use Rattle.pdb_repairs.specs.Repaired.{repairs_of, repairs_of_front, repairs_of_read}
use Rattle.pdb_session.proofs.FileLemmas.{count_of_file}
use Rattle.pdb_session.proofs.FirstLemmas.{opened_repairs, set_behind}
use Rattle.pdb_session.proofs.ReadLemmas.{nothing_behind}
use Rattle.pdb_session.proofs.ToldLemmas.{left_where_read, left_where_unread, told_where_read}
use Rattle.pdb_session.proofs.UntoldLemmas.{all_marked, kept_listed, left_at_same, told_at_same}
use Rattle.pdb_session.proofs.UntoldLemmas.{told_before_same}
use Rattle.pdb_session.specs.CodeOwners.{Owners, headers_of, merged_in, owners_of}
use Rattle.pdb_session.specs.FileParts.{IsOpened, IsReaderOf, OpensFile, ReadsFile}
use Rattle.pdb_session.specs.Session.{SameFile, SessionFile, needs_none}
use Rattle.pdb_session.specs.UntoldRepairs.{IfModules, KeepsUntold, LeaveUntold, TellsAll, TellsAt, TellsFront, ToldNone, kept_at}
use Rattle.pdb_session.specs.UntoldRepairs.{left_at, module_repairs, repairs_at, told_at, told_before, untold_in, untold_of}
use Rattle.pdb_session.specs.declared.type_lists.TypeLists.{TypeLists}

-- the records of a file are those of its container
records_are : (file : List ℕ) (mapped : MappedFile) → container file ≡ Ok (with_bytes file mapped) → (whole : Records)
    → records_of file ≡ Ok whole → records (with_bytes file mapped) ≡ whole
records_are file mapped contained whole is =
    let msf : Msf = with_bytes file mapped in
    ap (λ read. result_unwrap_or read (records msf))
    (sym (ap (λ (read : Result Msf ContainerError). read >>= λ msf. Ok (records msf)) contained) ∙ is)

-- so are the modules of these records
modules_are : (file : List ℕ) (mapped : MappedFile) (places : List PlaceOrFault) (lists : TypeLists) (known : Known)
    → IsReaderOf file mapped places lists known → (whole : Records) → records_of file ≡ Ok whole
    → module_infos (with_bytes file mapped) ≡ whole.module_infos
modules_are file mapped places lists known reader whole is =
    ap (λ (read : Records). read.module_infos) (records_are file mapped reader.container whole is)

-- a session that was opened returned the repairs of what was read at first
pub opened_tells : (session : SessionFile) (bytes : Option (List ℕ)) (mapped : MappedFile) (places : List PlaceOrFault)
    (lists : TypeLists) (read : Records) (told : List Repair) → session.bytes ≡ bytes
    → session.file_length ≡ mapped.file_length → OpensFile bytes mapped places lists read → told ≡ repairs_of read
    → TellsFront session told
opened_tells session bytes mapped places lists read told bytes_are long opens told_is =
    subst (λ bytes. IfFile bytes session.file_length (λ file. (whole : Records) → records_of file ≡ Ok whole
    → told ≡ repairs_of_front whole)) (sym bytes_are) (by_bytes bytes opens)
  where
    by_bytes : (bytes : Option (List ℕ)) → OpensFile bytes mapped places lists read
        → IfFile bytes session.file_length (λ file. (whole : Records) → records_of file ≡ Ok whole
        → told ≡ repairs_of_front whole)
    by_bytes None opens = tt
    by_bytes (Some file) opens = λ length_is whole whole_is.
        let opened : IsOpened file mapped places lists read = opens (length_is ∙ long) in
        told_is ∙ opened_repairs file mapped places lists read opened
        ∙ ap repairs_of_front (records_are file mapped opened.container whole whole_is)

-- the repairs that a session keeps, as lists
abbrev pub listed : List (Vec Repair) → List (List Repair)
listed kept = map (λ (told : Vec Repair). told.items) kept

-- what is left of a module, by the list that has the session's repairs
untold_listed : (session : SessionFile) (modules : List ModuleOrFault) (kept : List (Vec Repair)) (position : ℕ)
    → session.kept ≡ listed kept
    → untold_of modules session position ≡ untold_in modules session.known.modules kept position
untold_listed session modules kept position is =
    ap (λ lists. if is_read session.known position then repairs_at lists position else module_repairs modules position) is
    ∙ ap (λ repairs. if is_read session.known position then repairs else module_repairs modules position)
    (sym (kept_listed kept position))

-- reading leaves what is left to be returned, if it leaves that of the container's modules
pub keeps_by_reader : (before after : SessionFile) (bytes : Option (List ℕ)) (mapped : MappedFile)
    (places : List PlaceOrFault) (lists : TypeLists) (known : Known) (kept kept' : List (Vec Repair))
    → before.bytes ≡ bytes → before.file_length ≡ mapped.file_length → before.known ≡ known → before.kept ≡ listed kept
    → after.kept ≡ listed kept' → ReadsFile bytes mapped places lists known
    → IfFile bytes mapped.file_length (λ file. LeaveUntold (module_infos (with_bytes file mapped))
    known.modules kept after.known.modules kept')
    → KeepsUntold before after
keeps_by_reader before after bytes mapped places lists known kept kept' bytes_are long known_is was is reads leaves =
    subst (λ bytes. IfFile bytes before.file_length (λ file. (whole : Records) → records_of file ≡ Ok whole
    → (position : ℕ) → untold_of whole.module_infos after position ≡ untold_of whole.module_infos before position))
    (sym bytes_are) (by_bytes bytes reads leaves)
  where
    by_bytes : (bytes : Option (List ℕ)) → ReadsFile bytes mapped places lists known
        → IfFile bytes mapped.file_length (λ file. LeaveUntold (module_infos (with_bytes file mapped))
        known.modules kept after.known.modules kept')
        → IfFile bytes before.file_length (λ file. (whole : Records) → records_of file ≡ Ok whole
        → (position : ℕ) → untold_of whole.module_infos after position ≡ untold_of whole.module_infos before position)
    by_bytes None reads leaves = tt
    by_bytes (Some file) reads leaves = λ length_is whole whole_is position.
        let modules : List ModuleOrFault = module_infos (with_bytes file mapped) in
        subst (λ modules. untold_of modules after position ≡ untold_of modules before position)
        (modules_are file mapped places lists known (reads (length_is ∙ long)) whole whole_is)
        (untold_listed after modules kept' position is ∙ leaves (length_is ∙ long) position
        ∙ ap (λ (known : Known). untold_in modules known.modules kept position) (sym known_is)
        ∙ sym (untold_listed before modules kept position was))

-- a file has as many modules as places for them
pub count_by_reader : (session : SessionFile) (bytes : Option (List ℕ)) (mapped : MappedFile)
    (places : List PlaceOrFault) (lists : TypeLists) (known : Known) → session.bytes ≡ bytes
    → session.file_length ≡ mapped.file_length → ReadsFile bytes mapped places lists known
    → IfModules session (λ modules. length places ≡ length modules)
count_by_reader session bytes mapped places lists known bytes_are long reads =
    subst (λ bytes. IfFile bytes session.file_length (λ file. (whole : Records) → records_of file ≡ Ok whole
    → length places ≡ length whole.module_infos)) (sym bytes_are) (by_bytes bytes reads)
  where
    by_bytes : (bytes : Option (List ℕ)) → ReadsFile bytes mapped places lists known
        → IfFile bytes session.file_length (λ file. (whole : Records) → records_of file ≡ Ok whole
        → length places ≡ length whole.module_infos)
    by_bytes None reads = tt
    by_bytes (Some file) reads = λ length_is whole whole_is.
        let reader : IsReaderOf file mapped places lists known = reads (length_is ∙ long) in
        count_of_file file mapped places lists known reader
        ∙ ap length (modules_are file mapped places lists known reader whole whole_is)

-- what holds of the modules of a file holds of them by another session over it
pub if_modules : (session other : SessionFile) (Holds Follows : List ModuleOrFault → Type 0) → SameFile session other
    → IfModules session Holds → ((modules : List ModuleOrFault) → Holds modules → Follows modules)
    → IfModules other Follows
if_modules session other Holds Follows same has follows =
    by_bytes other.bytes other.file_length
    (subst (λ bytes. IfFile bytes other.file_length (λ file. (whole : Records) → records_of file ≡ Ok whole
    → Holds whole.module_infos)) (sym same.0)
    (subst (λ file_length. IfFile session.bytes file_length (λ file. (whole : Records) → records_of file ≡ Ok whole
    → Holds whole.module_infos)) (sym same.1) has))
  where
    by_bytes : (bytes : Option (List ℕ)) (file_length : ℕ)
        → IfFile bytes file_length (λ file. (whole : Records) → records_of file ≡ Ok whole → Holds whole.module_infos)
        → IfFile bytes file_length (λ file. (whole : Records) → records_of file ≡ Ok whole
        → Follows whole.module_infos)
    by_bytes None file_length has = tt
    by_bytes (Some file) file_length has = λ length_is whole whole_is.
        follows whole.module_infos (has length_is whole whole_is)

-- two facts on the modules of a file hold together
pub both_of_modules : (session : SessionFile) (These Those : List ModuleOrFault → Type 0) → IfModules session These
    → IfModules session Those → IfModules session (λ modules. These modules × Those modules)
both_of_modules session These Those these those = by_bytes session.bytes these those where
  by_bytes : (bytes : Option (List ℕ))
      → IfFile bytes session.file_length (λ file. (whole : Records) → records_of file ≡ Ok whole
      → These whole.module_infos)
      → IfFile bytes session.file_length (λ file. (whole : Records) → records_of file ≡ Ok whole
      → Those whole.module_infos)
      → IfFile bytes session.file_length (λ file. (whole : Records) → records_of file ≡ Ok whole
      → These whole.module_infos × Those whole.module_infos)
  by_bytes None these those = tt
  by_bytes (Some file) these those = λ length_is whole whole_is.
      (these length_is whole whole_is, those length_is whole whole_is)

-- a session over the same file, seen from the other one
pub turned : (before after : SessionFile) → SameFile before after → SameFile after before
turned before after same = (sym same.0, sym same.1)

-- two reads leave what each of them leaves
pub keeps_twice : (first second third : SessionFile) → SameFile first second → KeepsUntold first second
    → KeepsUntold second third → KeepsUntold first third
keeps_twice first second third same before after =
    if_modules first first
    (λ modules. ((position : ℕ) → untold_of modules second position ≡ untold_of modules first position)
    × ((position : ℕ) → untold_of modules third position ≡ untold_of modules second position))
    (λ modules. (position : ℕ) → untold_of modules third position ≡ untold_of modules first position) (refl, refl)
    (both_of_modules first
    (λ modules. (position : ℕ) → untold_of modules second position ≡ untold_of modules first position)
    (λ modules. (position : ℕ) → untold_of modules third position ≡ untold_of modules second position) before
    (if_modules second first
    (λ modules. (position : ℕ) → untold_of modules third position ≡ untold_of modules second position)
    (λ modules. (position : ℕ) → untold_of modules third position ≡ untold_of modules second position)
    (turned first second same) after (λ modules each. each)))
    (λ modules both position. both.1 position ∙ both.0 position)

-- a session keeps repairs of as many modules as its file has, if its reader has places for so many
pub count_by_session : {R : Type 0} (session : SessionFile) (reader : Option R) (bytes_of : R → Option (List ℕ))
    (mapped_of : R → MappedFile) (places_of : R → List PlaceOrFault) (lists_of : R → TypeLists) (known : Known)
    (count : ℕ) → session.bytes ≡ option_and_then bytes_of reader
    → session.file_length ≡ option_map_or (λ r. (mapped_of r).file_length) reader 0
    → IfSome reader (λ r. ReadsFile (bytes_of r) (mapped_of r) (places_of r) (lists_of r) known)
    → IfSome reader (λ r. count ≡ length (places_of r)) → IfModules session (λ modules. count ≡ length modules)
count_by_session session None bytes_of mapped_of places_of lists_of known count bytes_are long reads counted =
    subst (λ bytes. IfFile bytes session.file_length (λ file. (whole : Records) → records_of file ≡ Ok whole
    → count ≡ length whole.module_infos)) (sym bytes_are) tt
count_by_session session (Some r) bytes_of mapped_of places_of lists_of known count bytes_are long reads counted =
    if_modules session session (λ modules. length (places_of r) ≡ length modules) (λ modules. count ≡ length modules)
    (refl, refl)
    (count_by_reader session (bytes_of r) (mapped_of r) (places_of r) (lists_of r) known bytes_are long reads)
    (λ modules same. counted ∙ same)

-- of a module that wasn't read is left everything
left_unread : (session : SessionFile) (modules : List ModuleOrFault) (position : ℕ)
    → is_read session.known position ≡ false → untold_of modules session position ≡ module_repairs modules position
left_unread session modules position unread =
    ap (λ mark. if mark then repairs_at session.kept position else module_repairs modules position) unread

-- if no module is marked as read, no repair of a module was returned
pub told_none : (session : SessionFile) (count : ℕ) → session.known.modules ≡ replicate count false
    → length session.kept ≡ count → IfModules session (λ modules. count ≡ length modules) → ToldNone session
told_none session count marks kept counts =
    if_modules session session (λ modules. count ≡ length modules)
    (λ modules. (position : ℕ) → untold_of modules session position ≡ module_repairs modules position) (refl, refl)
    counts (λ modules long position. by_mark modules long position (is_read session.known position) refl)
  where
    by_mark : (modules : List ModuleOrFault) → count ≡ length modules → (position : ℕ) (mark : Bool)
        → is_read session.known position ≡ mark
        → untold_of modules session position ≡ module_repairs modules position
    by_mark modules long position false unread = left_unread session modules position unread
    by_mark modules long position true read =
        let past : count ≤ position = set_behind count position
        (ap (λ (marks : List Bool). unwrap_or (slice_get marks position) true) (sym marks) ∙ read) in
        ap (λ mark. if mark then repairs_at session.kept position else module_repairs modules position) read
        ∙ ap (λ (found : Option (List Repair)). unwrap_or found [])
        (slice_get_past session.kept position (omega (arith, past, kept)))
        ∙ sym (ap (repairs_of_read position) (nothing_behind modules position (omega (arith, past, long))))

-- two reads leave the front of the records as it was
pub front_twice : (first second third : Records) → SameFront first second → SameFront second third
    → SameFront first third
front_twice first second third before after =
    (after.0 ∙ before.0, after.1 ∙ before.1, after.2 ∙ before.2, after.3 ∙ before.3, after.4 ∙ before.4)

-- the owners of code are the same where the front of the records is
pub owners_same : (old new : Records) → SameFront old new → owners_of new ≡ owners_of old
owners_same old new (sections, address_map, symbols, debug, strings) =
    ap (λ (ranges : Result (List AddressRange) StreamError). record {
      address_map = result_unwrap_or ranges [];
      contributions = merged_in (headers_of new) new.debug_information;
    }) address_map
    ∙ ap (λ (headers : Result (Option (List ImageSectionHeader)) StreamError). record {
      address_map = result_unwrap_or old.address_map [];
      contributions = merged_in (unwrap_or (result_unwrap_or headers None) []) new.debug_information;
    }) sections
    ∙ ap (λ (debug : Result DebugInformation StreamError). record {
      address_map = result_unwrap_or old.address_map [];
      contributions = merged_in (headers_of old) debug;
    }) debug

-- of a module that was read is left what is kept of it
left_read : (session : SessionFile) (modules : List ModuleOrFault) (kept : List (Vec Repair)) (position : ℕ)
    → session.kept ≡ listed kept → is_read session.known position ≡ true
    → untold_of modules session position ≡ kept_at kept position
left_read session modules kept position is read =
    untold_listed session modules kept position is
    ∙ ap (λ mark. if mark then kept_at kept position else module_repairs modules position) read

-- a session that has read what these addresses need returns the repairs of their modules, and keeps the others
pub tells_at : (first second third : SessionFile) (kept kept' : List (Vec Repair)) (addresses : List ℕ)
    (told : List Repair) → SameFront first.known.records second.known.records → KeepsUntold first second
    → needs_none second.known addresses ≡ true → third.known ≡ second.known → second.kept ≡ listed kept
    → third.kept ≡ listed kept' → told ≡ told_at (owners_of second.known.records) (kept_at kept) addresses
    → ((position : ℕ)
    → kept_at kept' position ≡ left_at (owners_of second.known.records) (kept_at kept) addresses position)
    → IfModules first (TellsAt first third addresses told)
tells_at first second third kept kept' addresses told front keeps enough known_is was_kept is_kept told_is left_is =
    if_modules first first
    (λ modules. (position : ℕ) → untold_of modules second position ≡ untold_of modules first position)
    (TellsAt first third addresses told) (refl, refl) keeps tells
  where
    owners : Owners
    owners = owners_of second.known.records

    are : owners ≡ owners_of first.known.records
    are = owners_same first.known.records second.known.records front

    still : (position : ℕ) (mark : Bool) → is_read second.known position ≡ mark → is_read third.known position ≡ mark
    still position mark is = ap (λ (known : Known). is_read known position) known_is ∙ is

    agree : (modules : List ModuleOrFault) (position : ℕ) → is_read second.known position ≡ true
        → kept_at kept position ≡ untold_of modules second position
    agree modules position read = sym (left_read second modules kept position was_kept read)

    by_mark : (modules : List ModuleOrFault)
        → ((position : ℕ) → untold_of modules second position ≡ untold_of modules first position) → (position : ℕ)
        → (mark : Bool) → is_read second.known position ≡ mark
        → untold_of modules third position ≡ left_at owners (untold_of modules first) addresses position
    by_mark modules was position true read =
        left_read third modules kept' position is_kept (still position true read)
        ∙ left_is position
        ∙ left_where_read second.known (kept_at kept) (untold_of modules second) (agree modules) addresses position read
        ∙ left_at_same owners (untold_of modules second) (untold_of modules first) was addresses position
    by_mark modules was position false unread =
        left_unread third modules position (still position false unread)
        ∙ sym (left_unread second modules position unread)
        ∙ sym (left_where_unread second.known (untold_of modules second) position unread addresses enough)
        ∙ left_at_same owners (untold_of modules second) (untold_of modules first) was addresses position

    tells : (modules : List ModuleOrFault)
        → ((position : ℕ) → untold_of modules second position ≡ untold_of modules first position)
        → TellsAt first third addresses told modules
    tells modules was = record {
      told = told_is
          ∙ told_where_read second.known (kept_at kept) (untold_of modules second) (agree modules) addresses enough
          ∙ told_at_same owners (untold_of modules second) (untold_of modules first) was addresses
          ∙ ap (λ o. told_at o (untold_of modules first) addresses) are;
      left = λ position. by_mark modules was position (is_read second.known position) refl
          ∙ ap (λ o. left_at o (untold_of modules first) addresses position) are;
    }

-- a session that has read everything returns the repairs of all modules
pub tells_all : (first second third : SessionFile) (kept kept' : List (Vec Repair)) (count : ℕ) (told : List Repair)
    → KeepsUntold first second → second.known ≡ all_read second.known.records → third.known ≡ second.known
    → second.kept ≡ listed kept → third.kept ≡ listed kept' → told ≡ told_before (kept_at kept) count
    → ((position : ℕ) → kept_at kept' position ≡ []) → IfModules first (λ modules. count ≡ length modules)
    → IfModules first (TellsAll first third told)
tells_all first second third kept kept' count told keeps all known_is was_kept is_kept told_is left_is counts =
    if_modules first first
    (λ modules. ((position : ℕ) → untold_of modules second position ≡ untold_of modules first position)
    × (count ≡ length modules))
    (TellsAll first third told) (refl, refl)
    (both_of_modules first
    (λ modules. (position : ℕ) → untold_of modules second position ≡ untold_of modules first position)
    (λ modules. count ≡ length modules) keeps counts) tells
  where
    read : (position : ℕ) → is_read second.known position ≡ true
    read position = ap (λ (known : Known). is_read known position) all ∙ all_marked position

    tells : (modules : List ModuleOrFault)
        → ((position : ℕ) → untold_of modules second position ≡ untold_of modules first position)
        × (count ≡ length modules)
        → TellsAll first third told modules
    tells modules (was, long) = record {
      told = told_is
          ∙ told_before_same (kept_at kept) (untold_of modules first) (λ position.
          sym (left_read second modules kept position was_kept (read position)) ∙ was position) count
          ∙ ap (told_before (untold_of modules first)) long;
      left = λ position.
          left_read third modules kept' position is_kept
          (ap (λ (known : Known). is_read known position) known_is ∙ read position)
          ∙ left_is position;
    }
