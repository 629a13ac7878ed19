-- Which numbers are in one range, and in a list of ranges.
use Rattle.std.proofs.Common.{◌≡◌, ℕ, ◌+◌, ◌<◌, ◌≤◌, true, false, ◌||◌, List, [], ◌∷◌, ◌++◌, min, max, refl, arith}
use Rattle.std.proofs.lemmas.Bool.Decides.{nat_tests}
use Rattle.std.proofs.lemmas.List.Folds.{list_any-append}
use Rattle.pdb_tables.specs.RangeSet.{is_within, has, IsRunsFrom}

-- a number from lo on and before hi is within
pub within_yes : (lo hi x : ℕ) → lo ≤ x → x < hi → is_within lo hi x ≡ true
within_yes lo hi x from before = grind (arith, nat_tests)

-- a number below the range isn't within
pub within_below : (lo hi x : ℕ) → x < lo → is_within lo hi x ≡ false
within_below lo hi x below = grind (arith, nat_tests)

-- a number past the range isn't within
pub within_above : (lo hi x : ℕ) → hi ≤ x → is_within lo hi x ≡ false
within_above lo hi x above = grind (arith, nat_tests)

-- no number is within an empty range
pub within_empty : (lo hi x : ℕ) → hi ≤ lo → is_within lo hi x ≡ false
within_empty lo hi x empty = grind (arith, nat_tests)

-- two ranges that overlap or touch are together the range from the lower start to the higher end
pub within_joined : (lo hi start end x : ℕ) → lo ≤ hi → start ≤ end → start ≤ hi → lo ≤ end
    → is_within (min lo start) (max hi end) x ≡ (is_within lo hi x || is_within start end x)
within_joined lo hi start end x a b c d = grind (arith, nat_tests)

-- a number is in two lists together if it is in one of them
pub has-append : (xs ys : List (ℕ × ℕ)) (x : ℕ) → has (xs ++ ys) x ≡ (has xs x || has ys x)
has-append xs ys x = list_any-append _ xs ys

-- a number below the first run is in no run
pub has_below : (x n : ℕ) (runs : List (ℕ × ℕ)) → x < n → IsRunsFrom n runs → has runs x ≡ false
has_below x n [] below ordered = refl
has_below x n ((lo, hi) ∷ runs) below ordered =
    rw (within_below lo hi x (omega arith)) (has_below x (hi + 1) runs (omega arith) ordered.2)

-- the start of the first run is in the runs
pub has_start : (n lo hi : ℕ) (runs : List (ℕ × ℕ)) → IsRunsFrom n ((lo, hi) ∷ runs) → has ((lo, hi) ∷ runs) lo ≡ true
has_start n lo hi runs ordered = rw (within_yes lo hi lo (omega arith) ordered.1)

-- the end of the first run is in no run
pub has_end : (n lo hi : ℕ) (runs : List (ℕ × ℕ)) → IsRunsFrom n ((lo, hi) ∷ runs) → has ((lo, hi) ∷ runs) hi ≡ false
has_end n lo hi runs ordered =
    rw (within_above lo hi hi (omega arith)) (has_below hi (hi + 1) runs (omega arith) ordered.2)
