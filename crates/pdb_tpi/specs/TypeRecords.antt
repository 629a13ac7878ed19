-- Records of types and ids: how the bytes of a list are split into records.
use Rattle.std.specs.Prelude.{◌≡◌, ℕ, ◌+◌, ◌-◌, ◌^◌, min, nat_lt, List, take, drop, length, map, slice_get}
use Rattle.std.specs.Prelude.{Option, Some, None, Result, Ok, Err, if◌then◌else◌}
use Rattle.pdb_records.specs.Readings.{Read}
use Rattle.pdb_records.specs.declared.error.StreamError.{StreamError}
use Rattle.pdb_msf.specs.declared.faults.TheConstants.{BAD_LENGTH, CUT}
use Rattle.pdb_msf.specs.Faults.{◌>>=◌}
use Rattle.pdb_msf.specs.ItemLists.{all_items}
use Rattle.pdb_msf.specs.NumberLists.{two_byte_number}

-- a record: its kind, which is the number of a leaf (LF_..), and the bytes after the kind
pub record TypeBytes : Type 0 where
  pub kind : ℕ
  pub content : List ℕ

-- RecordLen, the two-byte number at the start of a record: the size of the rest of the record
abbrev pub record_len : List ℕ → ℕ
record_len bytes = two_byte_number bytes

-- the bytes after RecordLen in the first record
abbrev pub behind_len : List ℕ → List ℕ
behind_len bytes = take (record_len bytes) (drop 2 bytes)

-- the first record: after RecordLen come RecordKind, in two bytes, and its content
abbrev pub first_record : List ℕ → TypeBytes
first_record bytes = record { kind = two_byte_number (behind_len bytes); content = drop 2 (behind_len bytes) }

-- the fault of the first record, if it has one: `CUT` if the bytes end early, and a bad length if there is no room for
-- its kind
abbrev pub record_fault : List ℕ → Option StreamError
record_fault bytes =
    if nat_lt (length bytes) 2 then Some CUT else
    if nat_lt (length bytes) (2 + record_len bytes) then Some CUT else
    if nat_lt (record_len bytes) 2 then Some BAD_LENGTH else
    None

-- the first record and the bytes after it, or this fault
abbrev pub unless_faulty : Option StreamError → List ℕ → Result (TypeBytes × List ℕ) StreamError
unless_faulty (Some fault) bytes = Err fault
unless_faulty None bytes = Ok (first_record bytes, drop (2 + record_len bytes) bytes)

-- the first record, and the bytes after it
abbrev pub next_record : List ℕ → Result (TypeBytes × List ℕ) StreamError
next_record bytes = unless_faulty (record_fault bytes) bytes

-- all records of these bytes
abbrev pub type_records : List ℕ → Read TypeBytes
type_records bytes = all_items next_record bytes

-- the offset of the next record in a list of `whole` bytes, at most 2 ^ 32 - 1, and the bytes after the record
abbrev pub next_start : ℕ → List ℕ → Result (ℕ × List ℕ) StreamError
next_start whole bytes = do
  read ← next_record bytes
  Ok (min (whole - length bytes) (2 ^ 32 - 1), read.1)

-- the records that start at these offsets
abbrev pub records_at : List ℕ → List ℕ → List TypeBytes
records_at starts bytes = map (λ start. first_record (drop start bytes)) starts

-- a complete record starts at each of these offsets
abbrev pub AreStarts : List ℕ → List ℕ → Type 0
AreStarts starts bytes =
    (k start : ℕ) → slice_get starts k ≡ Some start → record_fault (drop start bytes) ≡ None
