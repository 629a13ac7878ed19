-- A number that is put among others in order.
use Rattle.std.proofs.Common.{zero, suc, ◌≡◌, ◌⊎◌, ℕ, ◌<◌, List, [], ◌∷◌, inl, inr, refl, sym, arith}
use Rattle.std.specs.BTreeSet.{insert_key}
use Rattle.std.specs.List.{AllByRecursion, Contains}
use Rattle.std.specs.Ordering.{nat_cmp, match_ordering}
use Rattle.std.specs.declared.cmp.Ordering.{Ordering}
use Rattle.std.specs.declared.cmp.Ordering.TheVariants.{Less, Equal, Greater}
use Rattle.std.proofs.lemmas.Cmp.{ranked}
use Rattle.std.proofs.lemmas.Map.Lookups.{exact_unsigned}
use Rattle.pdb_addr2line.specs.FunctionLaws.{Ascend}

-- what is below all numbers of a list and below another is below all, with that one put among them
below_put : (a k : ℕ) (ks : List ℕ) → a < k → AllByRecursion (λ b. a < b) ks
    → AllByRecursion (λ b. a < b) (insert_key nat_cmp ks k)
below_put a k [] first others = (first, tt)
below_put a k (x ∷ xs) first others = by_order (nat_cmp k x) (below_put a k xs first others.1) where
  by_order : (o : Ordering) → AllByRecursion (λ b. a < b) (insert_key nat_cmp xs k)
      → AllByRecursion (λ b. a < b) (match_ordering o (k ∷ x ∷ xs) (x ∷ xs) (x ∷ insert_key nat_cmp xs k))
  by_order Less rest = (first, others)
  by_order Equal rest = others
  by_order Greater rest = (others.0, rest)

-- what is below the first of numbers that are all above another is below them
below_all : (a b : ℕ) (ks : List ℕ) → a < b → AllByRecursion (λ c. b < c) ks → AllByRecursion (λ c. a < c) ks
below_all a b [] first others = tt
below_all a b (x ∷ xs) first others =
    let next : b < x = others.0 in
    (omega (arith, first, next), below_all a b xs first others.1)

-- numbers that ascend do so with another put among them
pub ascend_put : (k : ℕ) (ks : List ℕ) → Ascend ks → Ascend (insert_key nat_cmp ks k)
ascend_put k [] up = (tt, tt)
ascend_put k (x ∷ xs) up = by_order (nat_cmp k x) refl (ascend_put k xs up.1) where
  by_order : (o : Ordering) → o ≡ nat_cmp k x → Ascend (insert_key nat_cmp xs k)
      → Ascend (match_ordering o (k ∷ x ∷ xs) (x ∷ xs) (x ∷ insert_key nat_cmp xs k))
  by_order Less is rest = let below : k < x = ranked k x Less is in ((below, below_all k x xs below up.0), up)
  by_order Equal is rest = up
  by_order Greater is rest = let above : x < k = ranked k x Greater is in (below_put x k xs above up.0, rest)

-- an element of a list with one in front
pub in_front : {X : Type 0} (x y : X) (xs : List X) → Contains (x ∷ xs) y → (x ≡ y) ⊎ Contains xs y
in_front x y xs (zero, within, same) = inl same
in_front x y xs (suc k, within, same) = inr (k, omega (arith, within), same)

-- the one in front is an element
pub front : {X : Type 0} {x y : X} (xs : List X) → x ≡ y → Contains (x ∷ xs) y
front xs same = (0, omega arith, same)

-- and so are those after
pub behind : {X : Type 0} (x y : X) (xs : List X) → Contains xs y → Contains (x ∷ xs) y
behind x y xs (k, within, same) = (suc k, omega (arith, within), same)

-- with a number put among others there are that one and the others
pub put_cases : (k q : ℕ) (ks : List ℕ) → Contains (insert_key nat_cmp ks k) q → Contains ks q ⊎ (k ≡ q)
put_cases k q [] held = elim (in_front k q [] held) [ inl same ↦ inr same | inr none ↦ inl none ]
put_cases k q (x ∷ xs) held = by_order (nat_cmp k x) held (put_cases k q xs) where
  by_order : (o : Ordering) → Contains (match_ordering o (k ∷ x ∷ xs) (x ∷ xs) (x ∷ insert_key nat_cmp xs k)) q
      → (Contains (insert_key nat_cmp xs k) q → Contains xs q ⊎ (k ≡ q)) → Contains (x ∷ xs) q ⊎ (k ≡ q)
  by_order Less h next = elim (in_front k q (x ∷ xs) h) [ inl same ↦ inr same | inr rest ↦ inl rest ]
  by_order Equal h next = inl h
  by_order Greater h next = elim (in_front x q (insert_key nat_cmp xs k) h) [
    | inl same ↦ inl (front xs same)
    | inr rest ↦ elim (next rest) [ inl later ↦ inl (behind x q xs later) | inr same ↦ inr same ]
  ]

-- the number that is put is there
pub put_in : (k : ℕ) (ks : List ℕ) → Contains (insert_key nat_cmp ks k) k
put_in k [] = front [] refl
put_in k (x ∷ xs) = by_order (nat_cmp k x) refl (put_in k xs) where
  by_order : (o : Ordering) → nat_cmp k x ≡ o → Contains (insert_key nat_cmp xs k) k
      → Contains (match_ordering o (k ∷ x ∷ xs) (x ∷ xs) (x ∷ insert_key nat_cmp xs k)) k
  by_order Less is rest = front (x ∷ xs) refl
  by_order Equal is rest = front xs (sym (exact_unsigned k x is))
  by_order Greater is rest = behind x k (insert_key nat_cmp xs k) rest

-- the others stay
pub put_contains : (k q : ℕ) (ks : List ℕ) → Contains ks q → Contains (insert_key nat_cmp ks k) q
put_contains k q [] held = behind k q [] held
put_contains k q (x ∷ xs) held = by_order (nat_cmp k x) (put_contains k q xs) where
  by_order : (o : Ordering) → (Contains xs q → Contains (insert_key nat_cmp xs k) q)
      → Contains (match_ordering o (k ∷ x ∷ xs) (x ∷ xs) (x ∷ insert_key nat_cmp xs k)) q
  by_order Less next = behind k q (x ∷ xs) held
  by_order Equal next = held
  by_order Greater next = elim (in_front x q xs held) [
    | inl same ↦ front (insert_key nat_cmp xs k) same
    | inr rest ↦ behind x q (insert_key nat_cmp xs k) (next rest)
  ]
