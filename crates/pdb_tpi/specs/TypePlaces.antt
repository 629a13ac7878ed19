-- Places of records: where the records of a stream of types or of ids start, if it is read range by range.
use Rattle.std.specs.Prelude.{◌≡◌, ℕ, nat_lt, Bool, false, List, Option, Some, None, slice_get, Result, Ok, Err}
use Rattle.std.specs.Prelude.{if◌then◌else◌}
use Rattle.std.specs.Option.{option_and_then, option_map_or}
use Rattle.pdb_records.specs.declared.error.StreamError.{StreamError}
use Rattle.pdb_msf.specs.declared.faults.TheConstants.{CUT}
use Rattle.pdb_tpi.specs.RecordWindows.{records_in, shown_at}
use Rattle.pdb_tpi.specs.TypeRecords.{AreStarts, TypeBytes, first_record, record_fault, records_at}
use Rattle.pdb_tpi.specs.ItemStreams.{TypeList, type_list}
use Rattle.pdb_tpi.specs.TypeLeaves.{is_definition}
use Rattle.pdb_tpi.specs.declared.record_window.RecordWindow.{RecordWindow}
use Rattle.pdb_tpi.specs.declared.type_places.TypePlaces.{TypePlaces}

-- the fault of bytes that end early: `there` of `wanted` bytes are there
abbrev pub early_end : ℕ → ℕ → Option StreamError
early_end there wanted = if nat_lt there wanted then Some CUT else None

-- the list whose records start at these places of a stream
abbrev pub list_at : TypePlaces → List ℕ → TypeList
list_at places stream = record {
  first = places.first;
  records = records_at places.starts.items (records_in places.records stream);
  fault = places.starts.fault;
}

-- a record of the stream starts at each of these places
abbrev pub LieIn : TypePlaces → List ℕ → Type 0
LieIn places stream = AreStarts places.starts.items (records_in places.records stream)

-- records start at these places of a stream, and they are its list; or this is why the list can't be read
abbrev pub IsListIn : List ℕ → Result TypePlaces StreamError → Type 0
IsListIn stream (Ok places) = (type_list stream ≡ Ok (list_at places stream)) × LieIn places stream
IsListIn stream (Err error) = type_list stream ≡ Err error

-- the record that a window has at an offset, unless it has a fault
abbrev pub record_shown : RecordWindow → ℕ → Option TypeBytes
record_shown window place =
    option_map_or (λ fault. None) (record_fault (shown_at window place)) (Some (first_record (shown_at window place)))

-- the record that a window has at the start of the one at a position
abbrev pub position_shown : TypePlaces → RecordWindow → ℕ → Option TypeBytes
position_shown places window position =
    option_and_then (record_shown window) (slice_get places.starts.items position)

-- whether the record at a position of a list defines a class or a union
abbrev pub defines_at : TypeList → ℕ → Bool
defines_at list position =
    option_map_or (λ bytes. is_definition bytes.kind bytes.content) (slice_get list.records position) false
