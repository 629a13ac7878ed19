-- The optional debug header: the numbers of streams that not every file has.
use Rattle.std.specs.Prelude.{ℕ, ◌+◌, ◌*◌, ◌==◌, nat_lt, List, drop, length, Option, Some, None, if◌then◌else◌}
use Rattle.pdb_msf.specs.NumberLists.{two_byte_number}
use Rattle.pdb_dbi.specs.PublishedNumbers.{sn_nil}

-- the number of a stream; absent if the code means no stream
abbrev pub stream_number : ℕ → Option ℕ
stream_number code = if code == sn_nil then None else Some code

-- the stream at this position of the optional debug header, which has two bytes for each; absent if the header ends
-- before it
unfoldable pub optional_stream : List ℕ → ℕ → Option ℕ
optional_stream bytes position =
    if nat_lt (length bytes) (2 * position + 2) then None else
    stream_number (two_byte_number (drop (2 * position) bytes))
