-- Numbers of two and of four bytes.
use Rattle.std.specs.Prelude.{ℕ, zero, suc, ◌*◌, nat_lt, List, [], ◌∷◌, take, drop, length, Result, Ok, Err}
use Rattle.std.specs.Prelude.{if◌then◌else◌}
use Rattle.byteorder.specs.Endian.{little_number}
use Rattle.pdb_records.specs.declared.error.StreamError.{StreamError}
use Rattle.pdb_msf.specs.declared.faults.TheConstants.{CUT}

-- the first four bytes as a number, lowest byte first
abbrev pub number : List ℕ → ℕ
number bytes = little_number 4 (take 4 bytes)

-- the first two bytes as a number, lowest byte first
abbrev pub two_byte_number : List ℕ → ℕ
two_byte_number bytes = little_number 2 (take 2 bytes)

-- `count` four-byte numbers in a row
abbrev pub numbers : ℕ → List ℕ → List ℕ
numbers zero bytes = []
numbers (suc count) bytes = number bytes ∷ numbers count (drop 4 bytes)

-- `count` four-byte numbers in a row; `CUT` if there are too few bytes
unfoldable pub listed : ℕ → List ℕ → Result (List ℕ) StreamError
listed count bytes = if nat_lt (length bytes) (4 * count) then Err CUT else Ok (numbers count bytes)
