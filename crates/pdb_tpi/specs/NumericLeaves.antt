-- Numeric leaves: numbers whose size is given by their kind.
use Rattle.std.specs.Prelude.{ℕ, ◌==◌, nat_lt, ℤ, pos, negsuc, List, take, drop, length, slice_index, Result, Ok, Err}
use Rattle.std.specs.Prelude.{if◌then◌else◌}
use Rattle.std.specs.Int.{cast_signed, w8, w16, w32, w64}
use Rattle.byteorder.specs.Endian.{little_number}
use Rattle.pdb_records.specs.declared.error.StreamError.{StreamError}
use Rattle.pdb_records.specs.declared.types.Variant.{Variant}
use Rattle.pdb_records.specs.declared.types.Variant.TheVariants.{I8, I16, I32, I64, U8, U16, U32, U64}
use Rattle.pdb_msf.specs.declared.faults.TheConstants.{BAD_NUMBER, CUT}
use Rattle.pdb_msf.specs.Faults.{◌>>=◌}
use Rattle.pdb_msf.specs.NumberLists.{number, two_byte_number}
use Rattle.pdb_tpi.specs.Leaves.{lf_char, lf_long, lf_numeric, lf_quadword, lf_short, lf_ulong, lf_uquadword}
use Rattle.pdb_tpi.specs.Leaves.{lf_ushort}

-- the first eight bytes as a number, lowest byte first
abbrev pub eight_byte_number : List ℕ → ℕ
eight_byte_number bytes = little_number 8 (take 8 bytes)

-- a number made of the first `size` bytes, and the bytes after it; `CUT` if there are too few
abbrev pub number_of : ℕ → (List ℕ → Variant) → List ℕ → Result (Variant × List ℕ) StreamError
number_of size made bytes = if nat_lt (length bytes) size then Err CUT else Ok (made bytes, drop size bytes)

-- the number after its leaf: LF_CHAR, LF_SHORT, LF_LONG and LF_QUADWORD are signed and have one, two, four and eight
-- bytes; LF_USHORT, LF_ULONG and LF_UQUADWORD are unsigned and have two, four and eight
abbrev pub wide_number : ℕ → List ℕ → Result (Variant × List ℕ) StreamError
wide_number leaf bytes =
    if leaf == lf_char then number_of 1 (λ bytes. I8 (cast_signed w8 (slice_index bytes 0))) bytes else
    if leaf == lf_short then number_of 2 (λ bytes. I16 (cast_signed w16 (two_byte_number bytes))) bytes else
    if leaf == lf_ushort then number_of 2 (λ bytes. U16 (two_byte_number bytes)) bytes else
    if leaf == lf_long then number_of 4 (λ bytes. I32 (cast_signed w32 (number bytes))) bytes else
    if leaf == lf_ulong then number_of 4 (λ bytes. U32 (number bytes)) bytes else
    if leaf == lf_quadword then number_of 8 (λ bytes. I64 (cast_signed w64 (eight_byte_number bytes))) bytes else
    if leaf == lf_uquadword then number_of 8 (λ bytes. U64 (eight_byte_number bytes)) bytes else
    Err BAD_NUMBER

-- the numeric leaf at the start of these bytes, and the bytes after it. The first two bytes are a number below
-- LF_NUMERIC, or the leaf of the number after them
unfoldable pub numeric_leaf : List ℕ → Result (Variant × List ℕ) StreamError
numeric_leaf bytes =
    if nat_lt (length bytes) 2 then Err CUT else
    if nat_lt (two_byte_number bytes) lf_numeric then Ok (U16 (two_byte_number bytes), drop 2 bytes) else
    wide_number (two_byte_number bytes) (drop 2 bytes)

-- a signed number as a size; a negative one is an error
abbrev pub signed_size : ℤ → Result ℕ StreamError
signed_size (pos size) = Ok size
signed_size (negsuc below) = Err BAD_NUMBER

-- a number as a size
abbrev pub size_of : Variant → Result ℕ StreamError
size_of (U8 size) = Ok size
size_of (U16 size) = Ok size
size_of (U32 size) = Ok size
size_of (U64 size) = Ok size
size_of (I8 size) = signed_size size
size_of (I16 size) = signed_size size
size_of (I32 size) = signed_size size
size_of (I64 size) = signed_size size

-- the size at the start of these bytes, as a numeric leaf, and the bytes after it
unfoldable pub size_in : List ℕ → Result (ℕ × List ℕ) StreamError
size_in bytes = do
  leaf ← numeric_leaf bytes
  size ← size_of leaf.0
  Ok (size, leaf.1)
