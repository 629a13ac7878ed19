-- What is left of a list from the last element at a place or before it.
use Rattle.std.proofs.Common.{◌≡◌, ℕ, ◌<◌, ◌≤◌, Bool, true, false, cond, List, [], ◌∷◌, length, refl, arith}
use Rattle.std.proofs.lemmas.Bool.Decides.{nat_tests}
use Rattle.pdb_codeview.specs.Places.{begins_by, from_last}

-- what begins by one place begins by a greater one
begins_by_greater : {T : Type 0} (place_of : T → ℕ) (x y : ℕ) (ys : List T) → x ≤ y → begins_by place_of x ys ≡ true
    → begins_by place_of y ys ≡ true
begins_by_greater place_of x y [] up is = is
begins_by_greater place_of x y (z ∷ zs) up is = grind (arith, nat_tests, is)

-- the rest of a list from one place on has the same rest from a greater place on
pub from_last-from_last : {T : Type 0} (place_of : T → ℕ) (x y : ℕ) (xs : List T) → x ≤ y
    → from_last place_of y (from_last place_of x xs) ≡ from_last place_of y xs
from_last-from_last place_of x y [] up = refl
from_last-from_last {T = T} place_of x y (z ∷ zs) up =
    by_test (begins_by place_of x zs) refl (from_last-from_last place_of x y zs up)
  where
    by_test : (t : Bool) → begins_by place_of x zs ≡ t
        → from_last place_of y (from_last place_of x zs) ≡ from_last place_of y zs
        → from_last place_of y (cond t (from_last place_of x zs) (z ∷ zs)) ≡ from_last place_of y (z ∷ zs)
    by_test true is rest = rw (begins_by_greater place_of x y zs up is) rest
    by_test false is rest = refl

-- of one element or none all is left
pub from_last-short : {T : Type 0} (place_of : T → ℕ) (x : ℕ) (xs : List T) → length xs < 2
    → from_last place_of x xs ≡ xs
from_last-short place_of x [] short = refl
from_last-short place_of x (y ∷ []) short = refl
from_last-short place_of x (y ∷ z ∷ zs) short = absurd (omega arith)
