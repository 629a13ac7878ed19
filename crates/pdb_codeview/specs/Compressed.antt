-- The compressed numbers of binary annotations.
use Rattle.std.specs.Prelude.{ℕ, ◌+◌, ◌-◌, ◌*◌, ◌==◌, nat_lt, List, [], ◌∷◌, length, slice_index, Option, Some, None}
use Rattle.std.specs.Prelude.{if◌then◌else◌}

-- the number of bytes of a compressed number, by the highest bits of its first byte: one for 0, two for 10, four for
-- 110; no number begins with 111
abbrev pub width_by : ℕ → ℕ
width_by first =
    if nat_lt first 128 then 1 else
    if nat_lt first 192 then 2 else
    if nat_lt first 224 then 4 else 0

-- the number of bytes of the compressed number at the start of these bytes
abbrev pub width : List ℕ → ℕ
width [] = 0
width (first ∷ rest) = width_by first

-- the compressed number in `size` bytes: the bits after the width bits, highest byte first
abbrev pub number_in : ℕ → List ℕ → Option ℕ
number_in size bytes =
    if size == 1 then Some (slice_index bytes 0) else
    if size == 2 then Some ((slice_index bytes 0 - 128) * 256 + slice_index bytes 1) else
    if size == 4 then
    Some ((slice_index bytes 0 - 192) * 16777216 + slice_index bytes 1 * 65536 + slice_index bytes 2 * 256
    + slice_index bytes 3)
    else None

-- the compressed number at the start of these bytes; absent if it is cut or its first byte begins with 111
abbrev pub compressed : List ℕ → Option ℕ
compressed bytes = if nat_lt (length bytes) (width bytes) then None else number_in (width bytes) bytes
