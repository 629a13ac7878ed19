-- The first number of a list that passes a test.
use Rattle.std.proofs.Common.{◌≡◌, ◌∙◌, ℕ, zero, suc, ◌<◌, ◌≤◌, List, [], ◌∷◌, Bool, true, false, length, get_or}
use Rattle.std.proofs.Common.{refl, sym, ap, arith, leb, ltb}
use Rattle.std.specs.Prelude.{Some, slice_get, cond}
use Rattle.std.specs.List.{AllByRecursion, find}
use Rattle.std.proofs.lemmas.Bool.Decides.{nat_tests}
use Rattle.pdb_addr2line.specs.FunctionLaws.{Ascend}

-- where no number in front of a position passes, and the one at the position does, it is the first that does
pub found_at : (passes : ℕ → Bool) (xs : List ℕ) (n : ℕ)
    → ((i d : ℕ) → i < n → passes (get_or xs i d) ≡ false)
    → ((d : ℕ) → n < length xs → passes (get_or xs n d) ≡ true)
    → n ≤ length xs → find passes xs ≡ slice_get xs n
found_at passes [] n before at within = refl
found_at passes (x ∷ xs) zero before at within = ap (λ b. cond b (Some x) (find passes xs)) (at 0 (omega arith))
found_at passes (x ∷ xs) (suc n) before at within =
    ap (λ b. cond b (Some x) (find passes xs)) (before 0 0 (omega arith))
    ∙ found_at passes xs n (λ i d below. before (suc i) d (omega (arith, below)))
    (λ d below. at d (omega (arith, below))) (omega (arith, within))

-- what is below all numbers of a list is below each
below_each : (a : ℕ) (xs : List ℕ) → AllByRecursion (λ b. a < b) xs → (i d : ℕ) → i < length xs → a < get_or xs i d
below_each a [] all i d within = absurd (omega (arith, within))
below_each a (x ∷ xs) all zero d within = all.0
below_each a (x ∷ xs) all (suc i) d within = below_each a xs all.1 i d (omega (arith, within))

-- of numbers that ascend a later one isn't below an earlier one
pub ascending : (xs : List ℕ) → Ascend xs → (i j d : ℕ) → i ≤ j → j < length xs → get_or xs i d ≤ get_or xs j d
ascending [] up i j d order within = absurd (omega (arith, within))
ascending (x ∷ xs) up zero zero d order within = omega arith
ascending (x ∷ xs) up zero (suc j) d order within =
    let below : x < get_or xs j d = below_each x xs up.0 j d (omega (arith, within)) in omega (arith, below)
ascending (x ∷ xs) up (suc i) zero d order within = absurd (omega (arith, order))
ascending (x ∷ xs) up (suc i) (suc j) d order within =
    ascending xs up.1 i j d (omega (arith, order)) (omega (arith, within))

-- the first of numbers that isn't below another, where those in front of a position are below, and those from there on
-- aren't
pub found_from : (least : ℕ) (xs : List ℕ) (n : ℕ)
    → ((i d : ℕ) → 0 ≤ i → i < n → ltb (get_or xs i d) least ≡ true)
    → ((i d : ℕ) → n ≤ i → i < length xs → ltb (get_or xs i d) least ≡ false)
    → n ≤ length xs → slice_get xs n ≡ find (λ x. leb least x) xs
found_from least xs n below others within =
    sym (found_at (λ x. leb least x) xs n
    (λ i d front. passes_none (get_or xs i d) (below i d (omega arith) front))
    (λ d behind. passes (get_or xs n d) (others n d (omega arith) behind)) within) where
      passes_none : (x : ℕ) → ltb x least ≡ true → leb least x ≡ false
      passes_none x is = grind (arith, nat_tests)

      passes : (x : ℕ) → ltb x least ≡ false → leb least x ≡ true
      passes x is = grind (arith, nat_tests)
