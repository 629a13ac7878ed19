-- The header of a stream of types (TPI) or of ids (IPI).
use Rattle.std.specs.Prelude.{ℕ, ◌==◌, nat_lt, not, List, drop, length, Result, Ok, Err, if◌then◌else◌}
use Rattle.pdb_records.specs.declared.error.StreamError.{StreamError}
use Rattle.pdb_msf.specs.declared.faults.TheConstants.{CUT, POINTS_NOWHERE, UNKNOWN_VERSION}
use Rattle.pdb_msf.specs.NumberLists.{number}
use Rattle.pdb_tpi.specs.declared.type_stream_header.TypeHeader.{TypeHeader}

-- Version, the header's first number
abbrev pub version : List ℕ → ℕ
version stream = number stream

-- the supported version, V80
abbrev pub version_80 : ℕ
version_80 = 20040203

-- HeaderSize, at 4: the number of bytes before the records
abbrev pub header_size : List ℕ → ℕ
header_size stream = number (drop 4 stream)

-- TypeIndexBegin, at 8: the index of the first record
abbrev pub type_index_begin : List ℕ → ℕ
type_index_begin stream = number (drop 8 stream)

-- TypeRecordBytes, at 16: the size of all records in bytes
abbrev pub type_record_bytes : List ℕ → ℕ
type_record_bytes stream = number (drop 16 stream)

-- the fields of a header that are read
abbrev pub header_fields : List ℕ → TypeHeader
header_fields stream = record {
  header_size = header_size stream;
  type_index_begin = type_index_begin stream;
  type_record_bytes = type_record_bytes stream;
}

-- the header at the start of these bytes, in a stream of this length. Its version must be the supported one, and the
-- stream must have HeaderSize bytes
abbrev pub header_of : List ℕ → ℕ → Result TypeHeader StreamError
header_of front stream_length =
    if nat_lt (length front) 20 then Err CUT else
    if not (version front == version_80) then Err UNKNOWN_VERSION else
    if nat_lt stream_length (header_size front) then Err POINTS_NOWHERE else
    Ok (header_fields front)

-- the header of a stream; its first 20 bytes are read
unfoldable pub type_header : List ℕ → Result TypeHeader StreamError
type_header stream = header_of stream (length stream)
