-- How many of the numbers below a bound are not among these.
use Rattle.std.proofs.Common.{◌≡◌, ℕ, zero, suc, ◌<◌, ◌≤◌, false, cond, List, [], ◌∷◌, refl, arith}
use Rattle.std.specs.BTreeSet.{insert_key}
use Rattle.std.specs.Ordering.{nat_cmp}
use Rattle.std.proofs.lemmas.Map.Lookups.{exact_unsigned}
use Rattle.std.proofs.lemmas.Bool.{cases_eq}
use Rattle.std.proofs.lemmas.Bool.Decides.{nat_tests}
use Rattle.std.proofs.lemmas.Grind.{common_steps}
use Rattle.pdb_type_texts.specs.Plans.{is_among}

-- how many of the numbers below a bound are not among these
unfoldable pub free : ℕ → List ℕ → ℕ
free zero indices = 0
free (suc n) indices = cond (is_among n indices) (free n indices) (suc (free n indices))

-- one more number leaves no more free
pub free_le : (n i : ℕ) (indices : List ℕ) → free n (i ∷ indices) ≤ free n indices
unfolding free
free_le zero i indices = omega arith
free_le (suc n) i indices = grind (arith, common_steps, free_le n i indices, cases_eq n i)

-- one more number below the bound, that was not among these, leaves less free
pub free_lt : (n i : ℕ) (indices : List ℕ) → i < n → is_among i indices ≡ false → free n (i ∷ indices) < free n indices
unfolding free
free_lt zero i indices below absent = absurd (omega arith)
free_lt (suc n) i indices below absent =
    grind (arith, common_steps, free_lt n i indices, free_le n i indices, cases_eq n i)

-- no more are free than there are
pub free_at_most : (n : ℕ) (indices : List ℕ) → free n indices ≤ n
unfolding free
free_at_most zero indices = omega arith
free_at_most (suc n) indices =
    grind (arith, common_steps, free_at_most n indices)

-- as many are free of indices as of others that have the same numbers among them
pub free-same : (n : ℕ) (a b : List ℕ) → ((q : ℕ) → is_among q a ≡ is_among q b) → free n a ≡ free n b
unfolding free
free-same zero a b same = refl
free-same (suc n) a b same = rw (same n, free-same n a b same)

-- a number is among indices with one more, in its place, where it is among them after it
pub among-inserted : (q index : ℕ) (indices : List ℕ)
    → is_among q (insert_key nat_cmp indices index) ≡ is_among q (index ∷ indices)
among-inserted q index [] = refl
among-inserted q index (first ∷ rest) =
    grind (arith, nat_tests, among-inserted q index rest, exact_unsigned index first)

-- an index that was not among these, put in its place, leaves less free
pub free-inserted : (n i : ℕ) (indices : List ℕ) → i < n → is_among i indices ≡ false
    → free n (insert_key nat_cmp indices i) < free n indices
free-inserted n i indices below absent =
    rw (free-same n _ (i ∷ indices) (λ q. among-inserted q i indices)) (free_lt n i indices below absent)
