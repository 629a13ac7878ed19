-- How many of the numbers below a bound are free: those that a test does not take.
use Rattle.std.proofs.Common.{◌≡◌, ℕ, zero, suc, ◌<◌, ◌≤◌, true, false, cond, arith}
use Rattle.std.specs.Prelude.{Bool}
use Rattle.std.proofs.lemmas.Bool.{cases_eq}
use Rattle.std.proofs.lemmas.Grind.{common_steps}

-- how many of the numbers below a bound a test does not take
unfoldable pub free : ℕ → (ℕ → Bool) → ℕ
free zero taken = 0
free (suc n) taken = cond (taken n) (free n taken) (suc (free n taken))

-- a test that takes as many leaves no more free
pub free_le : (n : ℕ) (old new : ℕ → Bool) → ((q : ℕ) → old q ≡ true → new q ≡ true) → free n new ≤ free n old
unfolding free
free_le zero old new more = omega arith
free_le (suc n) old new more = grind (arith, common_steps, free_le n old new more, more n)

-- a test that takes one more number below the bound leaves less free
pub free_lt : (n i : ℕ) (old new : ℕ → Bool) → i < n → old i ≡ false → new i ≡ true
    → ((q : ℕ) → old q ≡ true → new q ≡ true) → free n new < free n old
unfolding free
free_lt zero i old new below absent here more = absurd (omega arith)
free_lt (suc n) i old new below absent here more = grind (
  arith,
  common_steps,
  cases_eq n i,
  more n,
  free_le n old new more,
  λ (less : i < n). free_lt n i old new less absent here more,
)
