-- Bytes between which no claim begins or ends count for one module.
use Rattle.std.proofs.Common.{◌≡◌, ◌∙◌, ℕ, ◌<◌, ◌≤◌, ◌⊎◌, inl, inr, Bool, true, false, cond, List, [], ◌∷◌, fold}
use Rattle.std.proofs.Common.{Option, Some, None, refl, sym, ap, arith}
use Rattle.std.specs.Prelude.{nat_le, option_map}
use Rattle.std.specs.List.{AllByRecursion}
use Rattle.std.specs.Ordering.{nat_cmp, is_lt}
use Rattle.std.proofs.lemmas.Bool.Decides.{nat_tests}
use Rattle.pdb_tables.specs.Last.{last_over}
use Rattle.pdb_tables.proofs.NumberLemmas.{cases_le, less_test}
use Rattle.pdb_tables.proofs.SortLemmas.{Rises}
use Rattle.pdb_repairs.specs.Claims.{greater_over, has_byte, owner}
use Rattle.pdb_repairs.specs.Intervals.{edges_of}
use Rattle.pdb_repairs.specs.declared.claims.Claim.{Claim}

-- an edge doesn't lie between two bytes: it is at the first or before it, or after the second
abbrev pub IsClear : ℕ → ℕ → ℕ → Type 0
IsClear x y edge = (edge ≤ x) ⊎ (y < edge)

-- a claim that begins and ends outside has both bytes or none of them
same_bytes : (x y : ℕ) (c : Claim) → x ≤ y → IsClear x y c.start → IsClear x y c.end → has_byte x c ≡ has_byte y c
same_bytes x y c up (inl a) (inl b) = grind (arith, nat_tests)
same_bytes x y c up (inl a) (inr b) = grind (arith, nat_tests)
same_bytes x y c up (inr a) (inl b) = grind (arith, nat_tests)
same_bytes x y c up (inr a) (inr b) = grind (arith, nat_tests)

-- the greatest claim over both is the same
same_greatest : (x y : ℕ) (before : Option Claim) (cs : List Claim) → x ≤ y
    → AllByRecursion (IsClear x y) (edges_of cs)
    → fold (greater_over x) before cs ≡ fold (greater_over y) before cs
same_greatest x y before [] up clear = refl
same_greatest x y before (c ∷ cs) up clear =
    rw (same_bytes x y c up clear.0 clear.1.0) (same_greatest x y (greater_over y before c) cs up clear.1.1)

-- two bytes between which no claim begins or ends count for one module
pub same_owner : (cs : List Claim) (x y : ℕ) → x ≤ y → AllByRecursion (IsClear x y) (edges_of cs)
    → owner cs x ≡ owner cs y
same_owner cs x y up clear = ap (option_map (λ (c : Claim). c.module_index)) (same_greatest x y None cs up clear)

-- a claim that begins later doesn't have a byte
no_byte : (x : ℕ) (c : Claim) → x < c.start → has_byte x c ≡ false
no_byte x c later = grind (arith, nat_tests)

-- over a byte ahead of all claims there is none
none_greatest : (x : ℕ) (before : Option Claim) (cs : List Claim) → AllByRecursion (λ e. x < e) (edges_of cs)
    → fold (greater_over x) before cs ≡ before
none_greatest x before [] later = refl
none_greatest x before (c ∷ cs) later = rw (no_byte x c later.0) (none_greatest x before cs later.1.1)

-- a byte ahead of all claims counts for no module
pub no_owner : (cs : List Claim) (x : ℕ) → AllByRecursion (λ e. x < e) (edges_of cs) → owner cs x ≡ None
no_owner cs x later = ap (option_map (λ (c : Claim). c.module_index)) (none_greatest x None cs later)

-- one number is lower than another
abbrev pub is_less : ℕ → ℕ → Bool
is_less a b = is_lt (nat_cmp a b)

-- of two numbers of which the second is no lower
not_less : (a b : ℕ) → is_less b a ≡ false → a ≤ b
not_less a b is = let h = sym (less_test b a) ∙ is in grind (arith, nat_tests)

-- numbers that rise are no lower than the first
pub at_least_first : (e : ℕ) (es : List ℕ) → AllByRecursion (λ y. is_less y e ≡ false) es
    → AllByRecursion (λ y. e ≤ y) es
at_least_first e [] all = tt
at_least_first e (y ∷ es) all = (not_less e y all.0, at_least_first e es all.1)

-- numbers that are no lower than one above x are above x
pub all_above : (x e : ℕ) (es : List ℕ) → x < e → AllByRecursion (λ y. e ≤ y) es → AllByRecursion (λ y. x < y) es
all_above x e [] above all = tt
all_above x e (y ∷ es) above all = (omega (arith, all.0), all_above x e es above all.1)

-- what is above y is clear of x and y
all_clear : (x y : ℕ) (es : List ℕ) → AllByRecursion (λ e. y < e) es → AllByRecursion (IsClear x y) es
all_clear x y [] all = tt
all_clear x y (e ∷ es) all = (inr all.0, all_clear x y es all.1)

-- the last edge at a byte or before it is what was there before, where all are above
pub none_over : (x : ℕ) (before : Option ℕ) (es : List ℕ) → AllByRecursion (λ e. x < e) es
    → last_over (λ e. nat_le e x) before es ≡ before
none_over x before [] all = refl
none_over x before (e ∷ es) all =
    let above : nat_le e x ≡ false = (let h : x < e = all.0 in grind (arith, nat_tests)) in
    rw above (none_over x before es all.1)

-- the last edge at a byte or before it, no edge lies between the two
pub record IsLast (x from : ℕ) (es : List ℕ) (o : Option ℕ) : Type 0 where
  pub edge : ℕ
  pub is : o ≡ Some edge
  pub after : from ≤ edge
  pub before : edge ≤ x
  pub clear : AllByRecursion (IsClear edge x) es

-- of edges that rise from one on, the last one at a byte or before it
pub last_edge : (x from : ℕ) (es : List ℕ) → from ≤ x → Rises is_less es → AllByRecursion (λ y. from ≤ y) es
    → IsLast x from es (last_over (λ e. nat_le e x) (Some from) es)
last_edge x from [] up rises all =
    record { edge = from; is = refl; after = omega arith; before = up; clear = tt }
last_edge x from (e ∷ es) up rises all =
    by_test (nat_le e x) (cases_le e x) (λ below. last_edge x e es below rises.1 (at_least_first e es rises.0))
  where
    Last : Option ℕ → Type 0
    Last before = IsLast x from (e ∷ es) (last_over (λ e. nat_le e x) before es)

    by_test : (t : Bool) → ((t ≡ true) × (e ≤ x)) ⊎ ((t ≡ false) × (x < e))
        → (e ≤ x → IsLast x e es (last_over (λ e. nat_le e x) (Some e) es))
        → Last (cond t (Some e) (Some from))
    by_test t (inl below) rest =
        let l = rest below.1 in
        let here : from ≤ e = all.0 in
        rw below.0 (record {
          edge = l.edge;
          is = l.is;
          after = omega (arith, l.after);
          before = l.before;
          clear = (inl l.after, l.clear);
        })
    by_test t (inr above) rest =
        let others = all_above x e es above.1 (at_least_first e es rises.0) in
        rw above.0 (record {
          edge = from;
          is = none_over x (Some from) es others;
          after = omega arith;
          before = up;
          clear = (inr above.1, all_clear from x es others);
        })

-- of edges that rise there is a last one at a byte or before it, or all are above
pub last_or_none : (x : ℕ) (es : List ℕ) → Rises is_less es
    → ((last_over (λ e. nat_le e x) None es ≡ None) × AllByRecursion (λ e. x < e) es)
    ⊎ IsLast x 0 es (last_over (λ e. nat_le e x) None es)
last_or_none x [] rises = inl (refl, tt)
last_or_none x (e ∷ es) rises = by_test (nat_le e x) (cases_le e x) where
  by_test : (t : Bool) → ((t ≡ true) × (e ≤ x)) ⊎ ((t ≡ false) × (x < e))
      → ((last_over (λ e. nat_le e x) (cond t (Some e) None) es ≡ None) × AllByRecursion (λ e. x < e) (e ∷ es))
      ⊎ IsLast x 0 (e ∷ es) (last_over (λ e. nat_le e x) (cond t (Some e) None) es)
  by_test t (inl below) =
      let l = last_edge x e es below.1 rises.1 (at_least_first e es rises.0) in
      rw below.0 (inr (record {
        edge = l.edge;
        is = l.is;
        after = omega arith;
        before = l.before;
        clear = (inl l.after, l.clear);
      }))
  by_test t (inr above) =
      let others = all_above x e es above.1 (at_least_first e es rises.0) in
      rw above.0 (inl (none_over x None es others, (above.1, others)))
