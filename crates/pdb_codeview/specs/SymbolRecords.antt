-- Symbol records: how the bytes of a list of symbols are split into records.
use Rattle.std.specs.Prelude.{ℕ, ◌+◌, ◌-◌, ◌==◌, ◌||◌, Bool, not, nat_lt, nat_le, List, take, drop}
use Rattle.std.specs.Prelude.{length, filter, Option, None, Result, Ok, Err, if◌then◌else◌}
use Rattle.std.specs.List.{position_from}
use Rattle.std.specs.Option.{unwrap_or}
use Rattle.pdb_records.specs.Readings.{Read}
use Rattle.pdb_records.specs.declared.error.StreamError.{StreamError}
use Rattle.pdb_records.specs.declared.addresses.PdbInternalSectionOffset.{PdbInternalSectionOffset}
use Rattle.pdb_records.specs.declared.symbols.SymbolIndex.{SymbolIndex}
use Rattle.pdb_msf.specs.declared.faults.TheConstants.{BAD_LENGTH, CUT}
use Rattle.pdb_msf.specs.Bytes.{counted_text_in, text_in}
use Rattle.pdb_msf.specs.Faults.{◌>>=◌}
use Rattle.pdb_msf.specs.ItemLists.{all_items}
use Rattle.pdb_msf.specs.NumberLists.{number, two_byte_number}
use Rattle.pdb_codeview.specs.SymbolKinds.{s_align, s_skip}

-- a symbol record: its offset in its stream, its kind, and the bytes after the kind
pub record SymbolBytes : Type 0 where
  pub start : ℕ
  pub raw_kind : ℕ
  pub content : List ℕ

-- reclen, the two-byte number at the start of a record: the size of the rest of the record
abbrev pub reclen : List ℕ → ℕ
reclen bytes = two_byte_number bytes

-- the bytes after reclen in the first record. It is `CUT` if the bytes end early, and has a bad length if there is no
-- room for its kind
abbrev pub behind_reclen : List ℕ → Result (List ℕ) StreamError
behind_reclen bytes =
    if nat_lt (length bytes) 2 then Err CUT else
    if nat_lt (length bytes) (2 + reclen bytes) then Err CUT else
    if nat_lt (reclen bytes) 2 then Err BAD_LENGTH else
    Ok (take (reclen bytes) (drop 2 bytes))

-- the record at an offset, by the bytes after reclen: rectyp, its kind, in two bytes, and its content
abbrev pub record_at : ℕ → List ℕ → SymbolBytes
record_at start bytes = record { start = start; raw_kind = two_byte_number bytes; content = drop 2 bytes }

-- the first record, and the bytes after it; `end` is the offset at which the list ends
abbrev pub first_record : ℕ → List ℕ → Result (SymbolBytes × List ℕ) StreamError
first_record end bytes = do
  behind ← behind_reclen bytes
  Ok (record_at (end - length bytes) behind, drop (2 + length behind) bytes)

-- all records of these bytes; `start` is the offset of the first
abbrev pub all_records : ℕ → List ℕ → Read SymbolBytes
all_records start bytes = all_items (first_record (start + length bytes)) bytes

-- whether a record is no symbol: padding (S_ALIGN) or reserved space (S_SKIP)
abbrev pub is_filler : SymbolBytes → Bool
is_filler read = (read.raw_kind == s_align) || (read.raw_kind == s_skip)

-- the symbols among records
abbrev pub symbols_among : Read SymbolBytes → Read SymbolBytes
symbols_among list = record { items = filter (λ read. not (is_filler read)) list.items; fault = list.fault }

-- the symbols of a list that starts `front` bytes into its stream
abbrev pub symbol_records : ℕ → List ℕ → Read SymbolBytes
symbol_records front bytes = symbols_among (all_records front bytes)

-- the position of the first symbol at or after an offset; the number of symbols if there is none
abbrev pub position_at : List SymbolBytes → ℕ → SymbolIndex
position_at symbols place =
    record { 0 = unwrap_or (position_from (λ symbol. nat_le place symbol.start) 0 symbols) (length symbols) }

-- a name: it ends with a zero in kinds from 0x1100 on, and begins with a byte for its length in older kinds (_ST)
abbrev pub name_in : ℕ → List ℕ → Option (List ℕ)
name_in raw_kind bytes = if nat_lt raw_kind 0x1100 then counted_text_in bytes else text_in bytes

-- the name after the first `size` bytes of a symbol's content; absent if it is incomplete
abbrev pub name_behind : ℕ → SymbolBytes → Option (List ℕ)
name_behind size symbol =
    if nat_lt (length symbol.content) size then None else name_in symbol.raw_kind (drop size symbol.content)

-- the section offset in a symbol's content, whose offset and section are at these two places
abbrev pub section_offset : ℕ → ℕ → List ℕ → PdbInternalSectionOffset
section_offset offset section content = record {
  section = two_byte_number (drop section content);
  offset = number (drop offset content);
}
