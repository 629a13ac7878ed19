-- Laws on the comparisons of a type.
use Rattle.std.specs.Prelude.{◌≡◌, ◌↔◌, ℕ, Bool, true, List}
use Rattle.std.specs.declared.cmp.Ordering.{Ordering}
use Rattle.std.specs.declared.cmp.Ordering.TheVariants.{Equal}

-- order and equality agree: equal values are the same, and two values are equal exactly if neither comes before the
-- other
pub record OrderAgrees {T : Type 0} (cmp : T → T → Ordering) (eq : T → T → Bool) : Type 0 where
  pub same : (a b : T) → (eq a b ≡ true) ↔ (a ≡ b)
  pub tied : (a b : T) → (cmp a b ≡ Equal) ↔ (eq a b ≡ true)

-- equality and hash agree: equal values have the same hash input
abbrev pub HashAgrees : {T : Type 0} → (T → T → Bool) → (T → List (List ℕ)) → Type 0
HashAgrees {T = T} eq hashed = (a b : T) → (eq a b ≡ true) → hashed a ≡ hashed b
