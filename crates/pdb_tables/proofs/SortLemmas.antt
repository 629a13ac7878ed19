-- A list that is sorted and stable is the list in order.
use Rattle.std.proofs.Common.{◌≡◌, ◌∙◌, suc, Bool, true, false, cond, List, [], ◌∷◌, refl, sym, ap, subst, arith}
use Rattle.std.specs.Prelude.{⊤}
use Rattle.std.specs.List.{filter, AllByRecursion}
use Rattle.std.specs.List.Sorted.{IsSortedBy, IsStableBy, ties}
use Rattle.std.specs.Cmp.{IsStrictWeakOrder}
use Rattle.std.proofs.lemmas.List.Sorted.{sorted_far}
use Rattle.std.proofs.lemmas.List.Elements.{recursion_from_All}
use native.Mathlib.Numerals.{unary_clauses}
use Rattle.pdb_tables.specs.InOrder.{put, in_order}

-- no element is before one that stands ahead of it
abbrev pub Rises : {T : Type 0} → (T → T → Bool) → List T → Type 0
Rises before [] = ⊤
Rises before (x ∷ xs) = AllByRecursion (λ y. before y x ≡ false) xs × Rises before xs

-- the tail of a sorted list is sorted
pub sorted_tail : {T : Type 0} (before : T → T → Bool) (x : T) (xs : List T) → IsSortedBy before (x ∷ xs)
    → IsSortedBy before xs
sorted_tail before x xs sorted = λ k d low high.
    let h = simp unary_clauses at (sorted (suc k) d (omega arith) (omega arith)) in simp unary_clauses h

-- what is sorted by neighbours rises
pub rises_from_sorted : {T : Type 0} {before : T → T → Bool} (o : IsStrictWeakOrder before) (xs : List T)
    → IsSortedBy before xs → Rises before xs
rises_from_sorted o [] sorted = tt
rises_from_sorted {before = before} o (x ∷ xs) sorted = (
  recursion_from_All (λ y. before y x ≡ false) xs
      (λ k d below. sorted_far before o (x ∷ xs) sorted 0 (suc k) d (omega arith) (omega arith)),
  rises_from_sorted o xs (sorted_tail before x xs sorted),
)

-- nothing is before itself
pub not_before_itself : {T : Type 0} {before : T → T → Bool} (o : IsStrictWeakOrder before) (x : T) → before x x ≡ false
not_before_itself {before = before} o x = by_answer (before x x) refl where
  by_answer : (answer : Bool) → before x x ≡ answer → before x x ≡ false
  by_answer true is = o.one_way x x is
  by_answer false is = is

-- an element ties with itself
pub ties_itself : {T : Type 0} {before : T → T → Bool} (o : IsStrictWeakOrder before) (x : T) → ties before x x ≡ true
ties_itself o x = rw (not_before_itself o x) refl

-- two that are neither before the other tie
pub ties_from : {T : Type 0} (before : T → T → Bool) (x y : T) → before x y ≡ false → before y x ≡ false
    → ties before x y ≡ true
ties_from before x y first second = rw (first, second) refl

-- of two that don't tie with one element both, the order does not matter to what ties with it
pub filter_swapped : {T : Type 0} (p : T → Bool) (x y : T) (zs : List T) → (p x ≡ true → p y ≡ true → ⊥)
    → filter p (y ∷ x ∷ zs) ≡ filter p (x ∷ y ∷ zs)
filter_swapped p x y zs apart = by_tests (p x) (p y) refl refl where
  by_tests : (a b : Bool) → p x ≡ a → p y ≡ b → filter p (y ∷ x ∷ zs) ≡ filter p (x ∷ y ∷ zs)
  by_tests true true is was = absurd (apart is was)
  by_tests true false is was = rw (is, was) refl
  by_tests false true is was = rw (is, was) refl
  by_tests false false is was = rw (is, was) refl

-- what ties with q is in front of nothing that ties with q
pub ties_apart : {T : Type 0} {before : T → T → Bool} (o : IsStrictWeakOrder before) (q x y : T) → before y x ≡ true
    → ties before q x ≡ true → ties before q y ≡ true → ⊥
ties_apart {before = before} o q x y ahead with_x with_y = by_tests (before q x) (before y q) refl refl where
  by_tests : (a b : Bool) → before q x ≡ a → before y q ≡ b → ⊥
  by_tests true b is was = let h = rw is at with_x in cc
  by_tests false true is was = by_other (before q y) refl where
    by_other : (c : Bool) → before q y ≡ c → ⊥
    by_other true also = let h = rw also at with_y in cc
    by_other false also = let h = rw (also, was) at with_y in cc
  by_tests false false is was = let h : before y x ≡ false = o.chain y q x was is in cc

-- a test that no two elements pass of which one comes before the other
abbrev pub Apart : {T : Type 0} → (T → T → Bool) → (T → Bool) → Type 0
Apart {T} before p = (x y : T) → before y x ≡ true → p x ≡ true → p y ≡ true → ⊥

-- an element goes to its place without passing one that passes the test with it
pub filter_put : {T : Type 0} {before : T → T → Bool} (p : T → Bool) → Apart before p → (x : T) (ys : List T)
    → filter p (put before x ys) ≡ filter p (x ∷ ys)
filter_put p apart x [] = refl
filter_put {T = T} {before = before} p apart x (y ∷ ys) = by_test (before y x) refl (filter_put p apart x ys) where
  by_test : (b : Bool) → before y x ≡ b → filter p (put before x ys) ≡ filter p (x ∷ ys)
      → filter p (put before x (y ∷ ys)) ≡ filter p (x ∷ y ∷ ys)
  by_test true is rest_is = rw is
      (ap (λ (rest : List T). cond (p y) (y ∷ rest) rest) rest_is ∙ filter_swapped p x y ys (apart x y is))
  by_test false is rest_is = rw is refl

-- elements that pass the test stand in order as they stood before
pub filter_in_order : {T : Type 0} {before : T → T → Bool} (p : T → Bool) → Apart before p → (xs : List T)
    → filter p (in_order before xs) ≡ filter p xs
filter_in_order p apart [] = refl
filter_in_order {T = T} {before = before} p apart (x ∷ xs) =
    filter_put p apart x (in_order before xs) ∙ ap (λ (rest : List T). cond (p x) (x ∷ rest) rest)
    (filter_in_order p apart xs)

-- what holds of an element and of the others holds of all after it was put in
pub all_put : {T : Type 0} (before : T → T → Bool) (P : T → Type 0) (x : T) (ys : List T) → P x → AllByRecursion P ys
    → AllByRecursion P (put before x ys)
all_put before P x [] here others = (here, tt)
all_put {T = T} before P x (y ∷ ys) here others = by_test (before y x) (all_put before P x ys here others.1) where
  by_test : (b : Bool) → AllByRecursion P (put before x ys)
      → AllByRecursion P (cond b (y ∷ put before x ys) (x ∷ y ∷ ys))
  by_test true rest = (others.0, rest)
  by_test false rest = (here, others)

-- what is not before y is not before x, where y isn't before x
pub none_before : {T : Type 0} {before : T → T → Bool} (o : IsStrictWeakOrder before) (x y : T) (zs : List T)
    → before y x ≡ false → AllByRecursion (λ z. before z y ≡ false) zs → AllByRecursion (λ z. before z x ≡ false) zs
none_before o x y [] behind others = tt
none_before o x y (z ∷ zs) behind others = (o.chain z y x others.0 behind, none_before o x y zs behind others.1)

-- what rises still does after an element was put in
pub rises_put : {T : Type 0} {before : T → T → Bool} (o : IsStrictWeakOrder before) (x : T) (ys : List T)
    → Rises before ys → Rises before (put before x ys)
rises_put o x [] up = (tt, tt)
rises_put {T = T} {before = before} o x (y ∷ ys) up = by_test (before y x) refl (rises_put o x ys up.1) where
  by_test : (b : Bool) → before y x ≡ b → Rises before (put before x ys)
      → Rises before (cond b (y ∷ put before x ys) (x ∷ y ∷ ys))
  by_test true is rest = (all_put before (λ z. before z y ≡ false) x ys (o.one_way y x is) up.0, rest)
  by_test false is rest = ((is, none_before o x y ys is up.0), up)

-- a list in order rises
pub rises_in_order : {T : Type 0} {before : T → T → Bool} (o : IsStrictWeakOrder before) (xs : List T)
    → Rises before (in_order before xs)
rises_in_order o [] = tt
rises_in_order {before = before} o (x ∷ xs) = rises_put o x (in_order before xs) (rises_in_order o xs)

-- the first element that passes a test is one of the list
pub first_passing : {T : Type 0} (p : T → Bool) (P : T → Type 0) (x : T) (xs ys : List T) → filter p ys ≡ x ∷ xs
    → AllByRecursion P ys → P x
first_passing p P x xs [] is all = absurd (cc)
first_passing {T = T} p P x xs (y ∷ ys) is all = by_test (p y) refl (λ h. first_passing p P x xs ys h all.1) where
  by_test : (b : Bool) → p y ≡ b → (filter p ys ≡ x ∷ xs → P x) → P x
  by_test true passes rest = let h : y ≡ x = (let e = rw passes at is in cc) in subst P h all.0
  by_test false fails rest = rest (rw fails at is)

-- the heads of two lists that rise are one, where in both the elements that tie are the same
pub same_head : {T : Type 0} {before : T → T → Bool} (o : IsStrictWeakOrder before) (x y : T) (xs ys : List T)
    → Rises before (x ∷ xs) → Rises before (y ∷ ys)
    → ((q : T) → filter (ties before q) (x ∷ xs) ≡ filter (ties before q) (y ∷ ys)) → x ≡ y
same_head {T = T} {before = before} o x y xs ys up up' same =
    by_tests (ties before x y) (ties before y x) refl refl where
      at_x : x ∷ filter (ties before x) xs ≡ cond (ties before x y) (y ∷ filter (ties before x) ys)
          (filter (ties before x) ys)
      at_x = rw (ties_itself o x) at (same x)

      at_y : cond (ties before y x) (x ∷ filter (ties before y) xs) (filter (ties before y) xs) ≡ y ∷ filter
          (ties before y) ys
      at_y = rw (ties_itself o y) at (same y)

      by_tests : (a b : Bool) → ties before x y ≡ a → ties before y x ≡ b → x ≡ y
      by_tests true b is was = let e = rw is at at_x in cc
      by_tests false true is was = let e = rw was at at_y in cc
      by_tests false false is was =
          let behind : before x y ≡ false = first_passing (ties before x) (λ z. before z y ≡ false) x
          (filter (ties before x) xs) ys (sym (rw is at at_x)) up'.0 in
          let ahead : before y x ≡ false = first_passing (ties before y) (λ z. before z x ≡ false) y
          (filter (ties before y) ys) xs (rw was at at_y) up.0 in
          let e : ties before x y ≡ true = ties_from before x y behind ahead in cc

-- two lists that rise are one, where in both the elements that tie are the same and in one order
pub same_order : {T : Type 0} {before : T → T → Bool} (o : IsStrictWeakOrder before) (xs ys : List T)
    → Rises before xs → Rises before ys → ((q : T) → filter (ties before q) xs ≡ filter (ties before q) ys) → xs ≡ ys
same_order o [] [] up up' same = refl
same_order {before = before} o [] (y ∷ ys) up up' same = let e = rw (ties_itself o y) at (same y) in cc
same_order {before = before} o (x ∷ xs) [] up up' same = let e = rw (ties_itself o x) at (same x) in cc
same_order {T = T} {before = before} o (x ∷ xs) (y ∷ ys) up up' same =
    let head = same_head o x y xs ys up up' same in
    let tail : xs ≡ ys = same_order o xs ys up.1 up'.1 (λ q. tails q head (ties before q x) refl) in cc
  where
    tails : (q : T) → x ≡ y → (b : Bool) → ties before q x ≡ b → filter (ties before q) xs ≡ filter (ties before q) ys
    tails q head true is = let was : ties before q y ≡ true = rw (← head) is in let e = rw (is, was) at (same q) in cc
    tails q head false is = let was : ties before q y ≡ false = rw (← head) is in rw (is, was) at (same q)

-- what a stable sort gives is the list in order
pub sorted_is_in_order : {T : Type 0} {before : T → T → Bool} (o : IsStrictWeakOrder before) (xs ys : List T)
    → IsSortedBy before ys → IsStableBy before xs ys → ys ≡ in_order before xs
sorted_is_in_order {before = before} o xs ys sorted stable =
    same_order o ys (in_order before xs) (rises_from_sorted o ys sorted) (rises_in_order o xs)
    (λ q. stable q ∙ sym (filter_in_order (ties before q) (ties_apart o q) xs))
