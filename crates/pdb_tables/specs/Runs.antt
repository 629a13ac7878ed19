-- Sets of numbers as the fewest ranges.
use Rattle.std.specs.Prelude.{ℕ, Bool, true, false, ◌&&◌, List, [], ◌∷◌, ◌++◌, nat_lt, nat_le, min, max, if◌then◌else◌}

-- the runs with the range from lo to hi added; runs that overlap or touch it are merged with it
abbrev pub with_range : ℕ → ℕ → List (ℕ × ℕ) → List (ℕ × ℕ)
with_range lo hi [] = (lo, hi) ∷ []
with_range lo hi (run ∷ runs) =
    if nat_lt run.1 lo then run ∷ with_range lo hi runs
    else if nat_lt hi run.0 then (lo, hi) ∷ run ∷ runs
    else with_range (min lo run.0) (max hi run.1) runs

-- the runs from the first one on that goes past `bound`
abbrev pub ending_after : ℕ → List (ℕ × ℕ) → List (ℕ × ℕ)
ending_after bound [] = []
ending_after bound (run ∷ runs) = if nat_le run.1 bound then ending_after bound runs else run ∷ runs

-- the range from lo to hi as a list with one element; empty if the range is
abbrev pub one_or_none : ℕ → ℕ → List (ℕ × ℕ)
one_or_none lo hi = if nat_lt lo hi then (lo, hi) ∷ [] else []

-- the parts of the range from lo to hi outside the other ranges
abbrev pub range_without : ℕ → ℕ → List (ℕ × ℕ) → List (ℕ × ℕ)
range_without lo hi [] = one_or_none lo hi
range_without lo hi (other ∷ others) =
    if nat_le hi other.0 then one_or_none lo hi
    else one_or_none lo other.0 ++ range_without (max lo other.1) hi others

-- the parts of the runs outside the other ranges; others that end before a run begins touch no later run either
abbrev pub difference : List (ℕ × ℕ) → List (ℕ × ℕ) → List (ℕ × ℕ)
difference [] others = []
difference (run ∷ runs) others =
    range_without run.0 run.1 (ending_after run.0 others) ++ difference runs (ending_after run.0 others)

-- whether the first of the runs holds all of the range from lo to hi
abbrev pub starts_with_all : ℕ → ℕ → List (ℕ × ℕ) → Bool
starts_with_all lo hi [] = false
starts_with_all lo hi (run ∷ runs) = nat_le run.0 lo && nat_le hi run.1

-- whether each of the others lies within one run
abbrev pub covers : List (ℕ × ℕ) → List (ℕ × ℕ) → Bool
covers runs [] = true
covers runs (other ∷ others) =
    starts_with_all other.0 other.1 (ending_after other.0 runs) && covers (ending_after other.0 runs) others

-- the runs of the numbers in any of the ranges: the fewest ranges that hold them, ascending
abbrev pub runs_of : List (ℕ × ℕ) → List (ℕ × ℕ)
runs_of [] = []
runs_of (range ∷ ranges) =
    if nat_lt range.0 range.1 then with_range range.0 range.1 (runs_of ranges) else runs_of ranges

-- the runs of the numbers that are in some ranges, and in none of others
abbrev pub missing_runs : List (ℕ × ℕ) → List (ℕ × ℕ) → List (ℕ × ℕ)
missing_runs ranges others = difference (runs_of ranges) (runs_of others)
