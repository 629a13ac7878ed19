-- Counting the entries of a table that a search looks at.
use Rattle.std.specs.Prelude.{ℕ, ◌+◌, ◌-◌, ◌^◌, min, length}
use Rattle.std.specs.Int.Digits.{digits_of}

-- one more than a count, up to the greatest 64-bit number
abbrev pub one_more : ℕ → ℕ
one_more count = min (count + 1) (2 ^ 64 - 1)

-- how many binary digits n has: none for 0
unfoldable pub digits : ℕ → ℕ
digits n = length (digits_of 2 n)
