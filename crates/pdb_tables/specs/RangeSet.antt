-- Ranges of numbers, each a pair (lo, hi) with lo in and hi out, and sets of numbers as lists of ranges.
use Rattle.std.specs.Prelude.{ℕ, ◌+◌, ◌<◌, ◌≤◌, Bool, ◌&&◌, List, [], ◌∷◌, nat_lt, nat_le}
use Rattle.std.specs.List.{list_any}

-- whether x is one of the numbers lo, lo + 1, .. up to the one before hi
abbrev pub is_within : ℕ → ℕ → ℕ → Bool
is_within lo hi x = nat_le lo x && nat_lt x hi

-- whether x is in at least one of the ranges
abbrev pub has : List (ℕ × ℕ) → ℕ → Bool
has ranges x = list_any (λ range. is_within range.0 range.1 x) ranges

-- the ranges are runs: the first begins at n or later, none is empty, and there is a gap before each later one
abbrev pub IsRunsFrom : ℕ → List (ℕ × ℕ) → Type 0
IsRunsFrom n [] = Unit {0}
IsRunsFrom n (run ∷ runs) = (n ≤ run.0) × (run.0 < run.1) × IsRunsFrom (run.1 + 1) runs
