-- Numbers and tests on them.
use Rattle.std.proofs.Common.{◌≡◌, ℕ, ◌<◌, ◌≤◌, Bool, true, false, refl, inl, inr, arith}
use Rattle.std.specs.Prelude.{◌⊎◌, ◌==◌, nat_lt, nat_le}
use Rattle.std.specs.Ordering.{nat_cmp, is_eq, is_lt, MatchOrdering}
use Rattle.std.specs.declared.cmp.Ordering.{Ordering}
use Rattle.std.specs.declared.cmp.Ordering.TheVariants.{Less, Equal, Greater}
use Rattle.std.proofs.lemmas.Bool.Decides.{nat_tests}
use Rattle.std.proofs.lemmas.Cmp.{ranked}

-- a number is itself
pub eqb_same : (n : ℕ) → (n == n) ≡ true
eqb_same n = grind (arith, nat_tests)

-- of two numbers the first is the smaller, or it isn't
pub cases_lt : (m n : ℕ) → ((nat_lt m n ≡ true) × (m < n)) ⊎ ((nat_lt m n ≡ false) × (n ≤ m))
cases_lt m n = by_test (nat_lt m n) refl where
  by_test : (t : Bool) → nat_lt m n ≡ t → ((t ≡ true) × (m < n)) ⊎ ((t ≡ false) × (n ≤ m))
  by_test true is = inl (refl, grind (arith, nat_tests))
  by_test false is = inr (refl, grind (arith, nat_tests))

-- of two numbers the first is no greater, or it is
pub cases_le : (m n : ℕ) → ((nat_le m n ≡ true) × (m ≤ n)) ⊎ ((nat_le m n ≡ false) × (n < m))
cases_le m n = by_test (nat_le m n) refl where
  by_test : (t : Bool) → nat_le m n ≡ t → ((t ≡ true) × (m ≤ n)) ⊎ ((t ≡ false) × (n < m))
  by_test true is = inl (refl, grind (arith, nat_tests))
  by_test false is = inr (refl, grind (arith, nat_tests))

-- the test of what is no greater passes
pub le-leb : (m n : ℕ) → m ≤ n → nat_le m n ≡ true
le-leb m n below = grind (arith, nat_tests)

-- the order of two numbers as tests
tests_of_order : (a b : ℕ) → (is_lt (nat_cmp a b) ≡ nat_lt a b) × (is_eq (nat_cmp a b) ≡ (a == b))
tests_of_order a b = by_order (nat_cmp a b) refl (ranked a b (nat_cmp a b) refl) where
  by_order : (o : Ordering) → nat_cmp a b ≡ o → MatchOrdering (nat_cmp a b) (a < b) (a ≡ b) (b < a)
      → (is_lt (nat_cmp a b) ≡ nat_lt a b) × (is_eq (nat_cmp a b) ≡ (a == b))
  by_order Less is fact = let h : a < b = rw is at fact in rw is (grind (arith, nat_tests), grind (arith, nat_tests))
  by_order Equal is fact = let h : a ≡ b = rw is at fact in rw is (grind (arith, nat_tests), grind (arith, nat_tests))
  by_order Greater is fact = let h : b < a = rw is at fact in rw is (grind (arith, nat_tests), grind (arith, nat_tests))

-- whether the first is less
pub less_test : (a b : ℕ) → is_lt (nat_cmp a b) ≡ nat_lt a b
less_test a b = (tests_of_order a b).0

-- whether both are equal
pub equal_test : (a b : ℕ) → is_eq (nat_cmp a b) ≡ (a == b)
equal_test a b = (tests_of_order a b).1
