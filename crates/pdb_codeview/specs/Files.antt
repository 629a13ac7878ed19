-- The files of a module, from its checksum subsections.
use Rattle.std.specs.Prelude.{ℕ, ◌+◌, ◌-◌, ◌^◌, ◌==◌, min, nat_lt, List, drop, length, slice_index}
use Rattle.std.specs.Prelude.{Option, Some, None, option_and_then, Result, Ok, Err, if◌then◌else◌}
use Rattle.pdb_records.specs.declared.error.StreamError.{StreamError}
use Rattle.std.specs.List.{position_from}
use Rattle.pdb_records.specs.Readings.{Read}
use Rattle.pdb_records.specs.declared.lines.FileIndex.{FileIndex}
use Rattle.pdb_msf.specs.NumberLists.{number}
use Rattle.pdb_msf.specs.declared.faults.TheConstants.{CUT}
use Rattle.pdb_codeview.specs.declared.files.FileEntry.{FileEntry}
use Rattle.pdb_msf.specs.ItemLists.{all_items, first_padded, concatenated}

-- the position of the first file whose entry starts at this offset of its subsection
abbrev pub file_position : ℕ → List FileEntry → Option ℕ
file_position start entries = position_from (λ entry. entry.start == start) 0 entries

-- a position as a file index; absent if it doesn't fit in 32 bits
abbrev pub file_index : ℕ → Option FileIndex
file_index position = if nat_lt position (2 ^ 32) then Some (record { 0 = position }) else None

-- the file at an offset: the first entry, in any of the subsections, that starts at this offset
abbrev pub named_file : ℕ → List FileEntry → Option FileIndex
named_file start entries = option_and_then file_index (file_position start entries)

-- the entry in a subsection of `whole` bytes, of which `bytes` is the rest from the entry on. It has its offset in the
-- subsection, at most 2 ^ 32 - 1, and the file's name, by its key in the first four bytes
abbrev pub file_entry : ℕ → List ℕ → FileEntry
file_entry whole bytes = record {
  start = min (whole - length bytes) (2 ^ 32 - 1);
  info = record { name = record { 0 = number bytes } };
}

-- the size of an entry: six bytes and the checksum, whose size is the byte at 4
abbrev pub entry_size : List ℕ → ℕ
entry_size bytes = 6 + slice_index bytes 4

-- the first entry in the rest of a subsection of `whole` bytes, and the bytes after it; an incomplete entry is `CUT`
abbrev pub first_entry : ℕ → List ℕ → Result (FileEntry × List ℕ) StreamError
first_entry whole bytes =
    if nat_lt (length bytes) 6 then Err CUT else
    if nat_lt (length bytes) (entry_size bytes) then Err CUT else
    Ok (file_entry whole bytes, drop (entry_size bytes) bytes)

-- all entries of a subsection of files (DEBUG_S_FILECHKSMS), each padded to a multiple of four bytes
abbrev pub file_entries : List ℕ → Read FileEntry
file_entries bytes = all_items (first_padded (first_entry (length bytes))) bytes

-- the entries of several subsections in order, up to the first fault
abbrev pub all_entries : List (List ℕ) → Read FileEntry
all_entries subsections = concatenated file_entries subsections
