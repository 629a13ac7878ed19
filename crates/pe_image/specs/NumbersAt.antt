-- Bytes and numbers at offsets in a list of bytes.
use Rattle.std.specs.Prelude.{ℕ, zero, suc, List, [], ◌∷◌, Option, Some, None, ◌+◌, drop, take, length, nat_lt}
use Rattle.std.specs.Prelude.{if◌then◌else◌, option_map}
use Rattle.byteorder.specs.Endian.{little_number}

-- applies a computation to an optional value; the result is missing if the value is missing
infixl 10 ◌>>=◌
abbrev pub ◌>>=◌ : {A B : Type 0} → Option A → (A → Option B) → Option B
None >>= next = None
(Some value) >>= next = next value

-- `count` bytes from the offset `at` on, if the list is that long
abbrev pub bytes_at : List ℕ → ℕ → ℕ → Option (List ℕ)
bytes_at bytes at count = if nat_lt (length bytes) (at + count) then None else Some (take count (drop at bytes))

-- the number in `size` bytes from the offset `at` on, in little-endian order
abbrev pub number_at : ℕ → List ℕ → ℕ → Option ℕ
number_at size bytes at = option_map (little_number size) (bytes_at bytes at size)

-- a table of `count` entries of `size` bytes each
abbrev pub entries : {A : Type 0} → (List ℕ → A) → ℕ → ℕ → List ℕ → List A
entries entry size zero bytes = []
entries entry size (suc count) bytes = entry bytes ∷ entries entry size count (drop size bytes)
