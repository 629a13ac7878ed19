-- Why the records of a file can't be used.
use Rattle.std.specs.Prelude.{ℕ, ◌==◌, List, codes, Option, Some, None, Result, Ok, Err, if◌then◌else◌}
use Rattle.pdb_records.specs.Records.{Records}
use Rattle.pdb_records.specs.declared.error.StreamError.{StreamError}
use Rattle.pdb_msf.specs.declared.faults.TheConstants.{NO_STREAM, REARRANGED, UNKNOWN_VERSION}
use Rattle.pdb_msf.specs.Faults.{fault_text}
use Rattle.pdb_container.specs.declared.pdb_file_error.PdbFileError.{PdbFileError}
use Rattle.pdb_container.specs.declared.pdb_file_error.PdbFileError.TheVariants as refusal

-- a refusal with its texts as bytes; a broken stream has its name and its fault
pub data Reason : Type 0 where
  OfObjects : Reason
  OldTypes : ℕ → Reason
  NoSectionHeaders : Reason
  Rearranged : Reason
  Broken : List ℕ → List ℕ → Reason

-- the model of a refusal, with its texts as bytes
abbrev pub reason_of : PdbFileError → Reason
reason_of refusal.OfObjects = OfObjects
reason_of (refusal.OldTypes version) = OldTypes version
reason_of refusal.NoSectionHeaders = NoSectionHeaders
reason_of refusal.Rearranged = Rearranged
reason_of (refusal.Broken name why) = Broken name.now why.now

-- the refusal for a stream with this name that a fault breaks
abbrev pub broken : List ℕ → StreamError → Reason
broken name fault = Broken name (fault_text fault)

-- the refusal for missing debug information: the file belongs to a compiler's object files, unless the stream is broken
abbrev pub debug_reason : StreamError → Reason
debug_reason fault = if fault.0 == NO_STREAM.0 then OfObjects else broken (codes "debug information") fault

-- the refusal for types: an unknown version means an old file, and the refusal has the file's version
abbrev pub types_reason : ℕ → StreamError → Reason
types_reason version fault =
    if fault.0 == UNKNOWN_VERSION.0 then OldTypes version else broken (codes "types") fault

-- the refusal without an address map: addresses were rearranged after linking, or there are no section headers
abbrev pub map_reason : StreamError → Reason
map_reason fault = if fault.0 == REARRANGED.0 then Rearranged else NoSectionHeaders

-- the refusal for this part if it failed, otherwise the next one
abbrev pub unless_failed : {A : Type 0} → Result A StreamError → (StreamError → Reason) → Option Reason → Option Reason
unless_failed (Ok part) reason next = next
unless_failed (Err fault) reason next = Some (reason fault)

-- the refusal for sections: broken section headers, or no address map
abbrev pub sections_refusal : Records → Option Reason
sections_refusal records =
    unless_failed records.sections (broken (codes "section headers")) (
    unless_failed records.address_map map_reason None)

-- why addresses can't be found in the records, even if public symbols, types and ids can be read. The first part that
-- failed decides, in the order debug information, sections, address map
abbrev pub code_refusal : Records → Option Reason
code_refusal records = unless_failed records.debug_information debug_reason (sections_refusal records)

-- why the records of a file of this version can't be used, if so. The first part that failed decides, in the order
-- debug information, global symbols, types, ids, sections, address map
abbrev pub refusal_of : ℕ → Records → Option Reason
refusal_of version records =
    unless_failed records.debug_information debug_reason (
    unless_failed records.global_symbols (broken (codes "global symbols")) (
    unless_failed records.type_information (types_reason version) (
    unless_failed records.id_information (broken (codes "ids")) (sections_refusal records))))
