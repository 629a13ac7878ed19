-- Lists of indices, each with its count first.
use Rattle.std.specs.Prelude.{ℕ, ◌*◌, nat_lt, List, take, drop, length, Result, Err, if◌then◌else◌}
use Rattle.pdb_records.specs.declared.error.StreamError.{StreamError}
use Rattle.pdb_records.specs.declared.types.TypeIndex.{TypeIndex}
use Rattle.pdb_msf.specs.declared.faults.TheConstants.{CUT}
use Rattle.pdb_msf.specs.ItemLists.{entry_list}
use Rattle.pdb_msf.specs.NumberLists.{number}
use Rattle.pdb_msf.specs.Readings.{whole}

-- an index, which is a number of four bytes
abbrev pub index : List ℕ → TypeIndex
index bytes = record { 0 = number bytes }

-- the indices of a list: a count, and that many indices; `CUT` if there are too few bytes
unfoldable pub index_list : List ℕ → Result (List TypeIndex) StreamError
index_list bytes =
    if nat_lt (length bytes) 4 then Err CUT else
    if nat_lt (length (drop 4 bytes)) (4 * number bytes) then Err CUT else
    whole (entry_list index 4 (take (4 * number bytes) (drop 4 bytes)))
