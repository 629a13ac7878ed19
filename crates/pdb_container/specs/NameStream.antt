-- The string table: texts that records refer to by their offsets.
use Rattle.std.specs.Prelude.{ℕ, ◌+◌, ◌-◌, ◌==◌, not, nat_lt, List, [], ◌∷◌, ◌++◌, take, drop, length, codes}
use Rattle.std.specs.Prelude.{Result, Ok, Err, if◌then◌else◌}
use Rattle.pdb_records.specs.Readings.{Read}
use Rattle.pdb_records.specs.declared.error.StreamError.{StreamError}
use Rattle.pdb_records.specs.declared.strings.StringRef.{StringRef}
use Rattle.pdb_msf.specs.declared.faults.TheConstants.{CUT, UNKNOWN_VERSION}
use Rattle.pdb_msf.specs.Bytes.{first_text}
use Rattle.pdb_msf.specs.Faults.{◌>>=◌}
use Rattle.pdb_msf.specs.ItemLists.{all_items}
use Rattle.pdb_msf.specs.Msf.{Msf, stream_of}
use Rattle.pdb_msf.specs.NumberLists.{number}
use Rattle.pdb_msf.specs.Readings.{whole}
use Rattle.pdb_container.specs.Info.{named_stream}

-- the next text of a table of `whole` bytes, with its offset, and the bytes after it
abbrev pub next_text : ℕ → List ℕ → Result ((StringRef × List ℕ) × List ℕ) StreamError
next_text whole bytes = do
  text ← first_text bytes
  Ok ((record { 0 = whole - length bytes }, text.0), text.1)

-- all texts of these bytes, with their offsets
abbrev pub all_texts : List ℕ → Read (StringRef × List ℕ)
all_texts bytes = all_items (next_text (length bytes)) bytes

-- the size of all texts in bytes: the number at 8
abbrev pub texts_size : List ℕ → ℕ
texts_size stream = number (drop 8 stream)

-- the string table of a stream: its signature, the version of its hashes, the size of the texts, and the texts. It is
-- an error if one of these is incomplete
unfoldable pub string_table_in : List ℕ → Result (List (StringRef × List ℕ)) StreamError
string_table_in stream =
    if nat_lt (length stream) 4 then Err CUT else
    if not (number stream == 0xeffe_effe) then Err UNKNOWN_VERSION else
    if nat_lt (length stream) (12 + texts_size stream) then Err CUT else
    whole (all_texts (take (texts_size stream) (drop 12 stream)))

-- the name of the stream of texts, with its zero
abbrev pub names_name : List ℕ
names_name = codes "/names" ++ 0 ∷ []

-- the string table of a container: the stream named `/names` in the info stream, number 1
unfoldable pub string_table : Msf → Result (List (StringRef × List ℕ)) StreamError
string_table msf = do
  number ← named_stream names_name (stream_of msf 1)
  stream ← stream_of msf number
  string_table_in stream
