-- The info stream: the version, the named streams, and the list of features.
use Rattle.std.specs.Prelude.{ℕ, zero, suc, ◌+◌, ◌*◌, ◌/◌, ◌==◌, ◌&&◌, ◌||◌, Bool, true, false, nat_lt, nat_le, List}
use Rattle.std.specs.Prelude.{[], ◌∷◌, take, drop, length, find, Some, None, Result, Ok, Err, if◌then◌else◌}
use Rattle.std.specs.List.{starts_with}
use Rattle.std.specs.Option.{ok_or, option_map, unwrap_or}
use Rattle.pdb_records.specs.Readings.{Read}
use Rattle.pdb_records.specs.declared.error.StreamError.{StreamError}
use Rattle.pdb_msf.specs.declared.faults.TheConstants.{CUT, NO_STREAM}
use Rattle.pdb_msf.specs.Faults.{◌>>=◌}
use Rattle.pdb_msf.specs.NumberLists.{number, numbers}
use Rattle.pdb_msf.specs.Streams.{bytes_of}
use Rattle.pdb_msf.specs.declared.streams.StreamBytes.{StreamBytes}
use Rattle.pdb_msf.specs.Readings.{behind, nothing_read}
use Rattle.pdb_container.specs.declared.info.Features.{Features}

-- the bytes of an info stream, or why it can't be read
abbrev pub Info : Type 0
Info = Result (List ℕ) StreamError

-- the bytes of a stream that was read, borrowed or copied
abbrev pub seen : Result StreamBytes StreamError → Info
seen (Ok bytes) = Ok (bytes_of bytes)
seen (Err fault) = Err fault

-- the version of the file, its first four bytes; 0 if they are missing
abbrev pub version : Info → ℕ
version (Ok info) = if nat_lt (length info) 4 then 0 else number info
version (Err fault) = 0

-- the size of the stream names in bytes: the number at 28, after Version, Signature, Age and Guid
abbrev pub names_size : List ℕ → ℕ
names_size info = number (drop 28 info)

-- the stream names, in a row
abbrev pub names : List ℕ → List ℕ
names info = take (names_size info) (drop 32 info)

-- where the table of streams starts: after the names
abbrev pub table_place : List ℕ → ℕ
table_place info = 32 + names_size info

-- Size, the table's first number: the number of named streams
abbrev pub table_size : List ℕ → ℕ
table_size info = number (drop (table_place info) info)

-- the size of a bit set in bytes: a four-byte count of its words, and four bytes for each word
abbrev pub bits_size : List ℕ → ℕ
bits_size bytes = 4 + 4 * number bytes

-- where the bit set of used slots starts: after Size and Capacity
abbrev pub present_place : List ℕ → ℕ
present_place info = table_place info + 8

-- where the bit set of deleted slots starts: after that of used slots
abbrev pub deleted_place : List ℕ → ℕ
deleted_place info = present_place info + bits_size (drop (present_place info) info)

-- where the table's pairs start: after both bit sets
abbrev pub pairs_place : List ℕ → ℕ
pairs_place info = deleted_place info + bits_size (drop (deleted_place info) info)

-- where the list of features starts: after the pairs, which have eight bytes each
abbrev pub features_place : List ℕ → ℕ
features_place info = pairs_place info + 8 * table_size info

-- a named stream: the offset of its name among the names, and its number
pub record NamedStream : Type 0 where
  pub name_place : ℕ
  pub stream : ℕ

-- the pair at the start of these bytes: the offset of a name, and the number of its stream
abbrev pub pair : List ℕ → NamedStream
pair bytes = record { name_place = number bytes; stream = number (drop 4 bytes) }

-- `count` pairs in a row; an incomplete pair is `CUT`
abbrev pub pairs : ℕ → List ℕ → Read NamedStream
pairs zero bytes = nothing_read None
pairs (suc count) bytes =
    if nat_lt (length bytes) 8 then nothing_read (Some CUT) else behind (pair bytes ∷ []) (pairs count (drop 8 bytes))

-- whether this name, with its zero, is at this offset of the names
abbrev pub stands_at : List ℕ → List ℕ → ℕ → Bool
stands_at all name place = nat_le place (length all) && starts_with (λ a b. a == b) (drop place all) name

-- the number of the first of these streams that has this name; otherwise the fault that ends the pairs, or `NO_STREAM`
abbrev pub named_among : List ℕ → List ℕ → Read NamedStream → Result ℕ StreamError
named_among all name listed =
    ok_or (option_map (λ named. named.stream) (find (λ named. stands_at all name named.name_place) listed.items))
    (unwrap_or listed.fault NO_STREAM)

-- the number of the stream with this name, which includes its zero, by the bytes of the info stream
unfoldable pub named_stream_number : List ℕ → List ℕ → Result ℕ StreamError
named_stream_number name info =
    if nat_lt (length info) (pairs_place info) then Err CUT else
    named_among (names info) name (pairs (table_size info) (drop (pairs_place info) info))

-- the number of the stream with this name, or why the info stream can't be read
abbrev pub named_stream : List ℕ → Info → Result ℕ StreamError
named_stream name info = info >>= named_stream_number name

-- the features of a file that lists none
abbrev pub no_features : Features
no_features = record { ids = false; names_only = false }

-- the features that these numbers list: 20140508 means that there are ids, and 0x494e494d that there are only names;
-- 20091201 also means ids, and ends the list
abbrev pub features_by : List ℕ → Features
features_by [] = no_features
features_by (listed ∷ rest) =
    if listed == 20091201 then record { ids = true; names_only = false } else
    record {
      ids = (listed == 20140508) || (features_by rest).ids;
      names_only = (listed == 0x494e494d) || (features_by rest).names_only;
    }

-- these bytes as four-byte numbers, as far as they go
abbrev pub all_numbers : List ℕ → List ℕ
all_numbers bytes = numbers (length bytes / 4) bytes

-- the features of an info stream; the list goes on to the stream's end. A stream that ends before the list has none
unfoldable pub features_in : List ℕ → Features
features_in info =
    if nat_lt (length info) (features_place info) then no_features else
    features_by (all_numbers (drop (features_place info) info))

-- the features of a file; an unreadable info stream has none
abbrev pub features : Info → Features
features (Ok info) = features_in info
features (Err fault) = no_features
