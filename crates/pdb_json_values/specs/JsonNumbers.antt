-- Numbers of a records file, by their widths.
use Rattle.std.specs.Prelude.{ℕ, ◌^◌, ℤ, pos, negsuc, int_le, ◌&&◌, [], Option, Some, None, Result, Ok, Err, nat_lt}
use Rattle.std.specs.Prelude.{if◌then◌else◌, codes}
use Rattle.serde_json.specs.Data.{Data}
use Rattle.serde_json.specs.Find.{as_number, as_u64, as_i64}
use Rattle.pdb_json_values.specs.RecordFault.{Fault, out_of_range, ◌>>=◌}
use Rattle.pdb_json_values.specs.Values.{wanted}

-- the value, or a fault if the number is out of range
abbrev pub ranged : {X : Type 0} → Option X → Result X Fault
ranged None = Err (out_of_range [])
ranged (Some x) = Ok x

-- a whole number from 0 on that fits in 64 bits
unfoldable pub u64_of : Data → Result ℕ Fault
u64_of d = do
  n ← wanted (codes "number") (as_number d)
  ranged (as_u64 n)

-- a whole number from 0 on and below a limit
abbrev pub below : ℕ → Data → Result ℕ Fault
below limit d = do
  n ← u64_of d
  if nat_lt n limit then Ok n else Err (out_of_range [])

-- a whole number from 0 on that fits in 32 bits
unfoldable pub u32_of : Data → Result ℕ Fault
u32_of d = below (2 ^ 32) d

-- a whole number from 0 on that fits in 16 bits
unfoldable pub u16_of : Data → Result ℕ Fault
u16_of d = below (2 ^ 16) d

-- a whole number from 0 on that fits in 8 bits
unfoldable pub u8_of : Data → Result ℕ Fault
u8_of d = below (2 ^ 8) d

-- a signed whole number that fits in 64 bits
unfoldable pub i64_of : Data → Result ℤ Fault
i64_of d = do
  n ← wanted (codes "number") (as_number d)
  ranged (as_i64 n)

-- a whole number from one number to another
abbrev pub from_to : ℤ → ℤ → Data → Result ℤ Fault
from_to least greatest d = do
  n ← i64_of d
  if int_le least n && int_le n greatest then Ok n else Err (out_of_range [])

-- a signed whole number that fits in 32 bits: from -2147483648 to 2147483647
unfoldable pub i32_of : Data → Result ℤ Fault
i32_of d = from_to (negsuc 2147483647) (pos 2147483647) d

-- a signed whole number that fits in 16 bits: from -32768 to 32767
unfoldable pub i16_of : Data → Result ℤ Fault
i16_of d = from_to (negsuc 32767) (pos 32767) d

-- a signed whole number that fits in 8 bits: from -128 to 127
unfoldable pub i8_of : Data → Result ℤ Fault
i8_of d = from_to (negsuc 127) (pos 127) d
