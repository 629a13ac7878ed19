-- What stays of each key by their keys ascends, and is the first; and where in such a list a key stands.
use Rattle.std.proofs.Common.{◌≡◌, ◌∙◌, Bool, true, false, cond, List, [], ◌∷◌, map, Option, Some, None, refl, sym, ap}
use Rattle.std.specs.Prelude.{filter, find}
use Rattle.std.specs.List.{AllByRecursion}
use Rattle.std.specs.Ordering.{is_eq, is_lt, ordering_reverse}
use Rattle.std.specs.Cmp.{IsTotalOrder}
use Rattle.std.specs.declared.cmp.Ordering.{Ordering}
use Rattle.std.specs.declared.cmp.Ordering.TheVariants.{Less, Equal, Greater}
use Rattle.std.proofs.lemmas.List.Sorted.{ranks_by}
use Rattle.pdb_tables.specs.InOrder.{put, in_order}
use Rattle.pdb_tables.specs.Keyed.{is_lower, is_same_key, is_above, firsts_after, first_of_each_key, KeysAscend}
use Rattle.pdb_tables.proofs.PositionLemmas.{GoesOn}
use Rattle.pdb_tables.proofs.SortLemmas.{Apart, Rises, filter_in_order, rises_in_order}

-- what answers that the first is lower is that order
less_from_test : (o : Ordering) → is_lt o ≡ true → o ≡ Less
less_from_test Less is = refl
less_from_test Equal is = cc
less_from_test Greater is = cc

-- what answers that both are equal is that order
equal_from_test : (o : Ordering) → is_eq o ≡ true → o ≡ Equal
equal_from_test Less is = cc
equal_from_test Equal is = refl
equal_from_test Greater is = cc

-- the first element that passes is the first of those that pass
pub find_from_filter : {T : Type 0} (p : T → Bool) (xs ys : List T) → filter p xs ≡ filter p ys → find p xs ≡ find p ys
find_from_filter {T = T} p xs ys same = sym (first_of xs) ∙ (ap first same ∙ first_of ys) where
  first : List T → Option T
  first [] = None
  first (z ∷ zs) = Some z

  first_of : (zs : List T) → first (filter p zs) ≡ find p zs
  first_of [] = refl
  first_of (z ∷ zs) = by_test (p z) (first_of zs) where
    by_test : (t : Bool) → first (filter p zs) ≡ find p zs
        → first (cond t (z ∷ filter p zs) (filter p zs)) ≡ cond t (Some z) (find p zs)
    by_test true rest = refl
    by_test false rest = rest

module _ {T K : Type 0} {cmp : K → K → Ordering} (total : IsTotalOrder cmp) (key : T → K) where
  -- a key that is lower than another is lower than all above that
  pub lower_trans : (a b c : K) → is_lt (cmp a b) ≡ true → is_lt (cmp b c) ≡ true → is_lt (cmp a c) ≡ true
  lower_trans a b c first second =
      ap is_lt (total.trans a b c (less_from_test (cmp a b) first) (less_from_test (cmp b c) second))

  -- a key that isn't above another, and isn't that one, is lower
  lower_from : (a b : K) → is_lt (cmp b a) ≡ false → is_eq (cmp a b) ≡ false → is_lt (cmp a b) ≡ true
  lower_from a b behind other =
      ap is_lt (total.antisymm a b) ∙ by_order (cmp b a) behind (sym (ap is_eq (total.antisymm a b)) ∙ other)
    where
      by_order : (o : Ordering) → is_lt o ≡ false → is_eq (ordering_reverse o) ≡ false → is_lt (ordering_reverse o) ≡ true
      by_order Less behind other = cc
      by_order Equal behind other = cc
      by_order Greater behind other = refl

  -- a key that is lower than another is lower than each that this one is lower than
  all_lower : (a b : K) (xs : List T) → is_lt (cmp a b) ≡ true → AllByRecursion (λ x. is_lt (cmp b (key x)) ≡ true) xs
      → AllByRecursion (λ x. is_lt (cmp a (key x)) ≡ true) xs
  all_lower a b [] first others = tt
  all_lower a b (x ∷ xs) first others = (lower_trans a b (key x) first others.0, all_lower a b xs first others.1)

  -- where keys ascend, all from the first on that is above a key are above it
  pub ascend_goes_on : (k : K) (xs : List T) → KeysAscend cmp key xs → GoesOn (is_above cmp key k) xs
  ascend_goes_on k [] up = tt
  ascend_goes_on k (x ∷ xs) up = (λ above. all_lower k (key x) xs above up.0, ascend_goes_on k xs up.1)

  -- behind a key, what stays of a list in order ascends
  ascend_behind : (k : K) (xs : List T) → AllByRecursion (λ x. is_lt (cmp (key x) k) ≡ false) xs
      → Rises (is_lower cmp key) xs
      → AllByRecursion (λ x. is_lt (cmp k (key x)) ≡ true) (firsts_after cmp key (Some k) xs)
      × KeysAscend cmp key (firsts_after cmp key (Some k) xs)
  ascend_behind k [] behind up = (tt, tt)
  ascend_behind k (x ∷ xs) behind up =
      by_test (is_eq (cmp k (key x))) refl (ascend_behind k xs behind.1 up.1) (ascend_behind (key x) xs up.0 up.1)
    where
      from : K → List T
      from before = firsts_after cmp key (Some before) xs

      by_test : (t : Bool) → is_eq (cmp k (key x)) ≡ t
          → AllByRecursion (λ y. is_lt (cmp k (key y)) ≡ true) (from k) × KeysAscend cmp key (from k)
          → AllByRecursion (λ y. is_lt (cmp (key x) (key y)) ≡ true) (from (key x)) × KeysAscend cmp key (from (key x))
          → AllByRecursion (λ y. is_lt (cmp k (key y)) ≡ true) (cond t (from k) (x ∷ from (key x)))
          × KeysAscend cmp key (cond t (from k) (x ∷ from (key x)))
      by_test true here rest next = rest
      by_test false apart rest next =
          let first = lower_from k (key x) behind.0 apart in
          ((first, all_lower k (key x) (from (key x)) first next.0), next)

  -- what stays of each key ascends
  pub firsts_ascend : (xs : List T) → KeysAscend cmp key (first_of_each_key cmp key xs)
  firsts_ascend xs = of_order (in_order (is_lower cmp key) xs) (rises_in_order (ranks_by total key) xs) where
    of_order : (ys : List T) → Rises (is_lower cmp key) ys → KeysAscend cmp key (firsts_after cmp key None ys)
    of_order [] up = tt
    of_order (y ∷ ys) up = ascend_behind (key y) ys up.0 up.1

  module _ (k : K) (has_key : T → Bool) (tests : (x : T) → has_key x ≡ is_eq (cmp (key x) k)) where
    -- of what has one key, nothing is passed on the way into order
    apart : Apart (is_lower cmp key) has_key
    apart x y lower at_x at_y =
        let equal = λ (z : T) (at : has_key z ≡ true). equal_from_test (cmp (key z) k) (sym (tests z) ∙ at) in
        let tie : cmp (key y) (key x) ≡ Equal =
        total.congr (key y) k (key x) (equal y at_y) ∙ total.antisymm k (key x) ∙ ap ordering_reverse (equal x at_x) in
        let none = ap is_lt tie in cc

    -- neighbours with one key hide no first one of another key
    first_behind : (before : Option K) (xs : List T) → is_same_key cmp before k ≡ false
        → find has_key (firsts_after cmp key before xs) ≡ find has_key xs
    first_behind before [] other = refl
    first_behind before (x ∷ xs) other =
        by_test (is_same_key cmp before (key x)) refl (has_key x) refl (first_behind before xs other)
        (first_behind (Some (key x)) xs)
      where
        hidden : (b : Option K) → is_same_key cmp b (key x) ≡ true → is_same_key cmp b k ≡ false → has_key x ≡ false
        hidden None here away = cc
        hidden (Some b) here away =
            tests x ∙ ap is_eq (sym (total.congr b (key x) k (equal_from_test (cmp b (key x)) here))) ∙ away

        by_test : (t : Bool) → is_same_key cmp before (key x) ≡ t → (u : Bool) → has_key x ≡ u
            → find has_key (firsts_after cmp key before xs) ≡ find has_key xs
            → (is_same_key cmp (Some (key x)) k ≡ false
            → find has_key (firsts_after cmp key (Some (key x)) xs) ≡ find has_key xs)
            → find has_key (cond t (firsts_after cmp key before xs) (x ∷ firsts_after cmp key (Some (key x)) xs))
            ≡ cond u (Some x) (find has_key xs)
        by_test true here true at_x same next = let away = hidden before here other in cc
        by_test true here false away same next = same
        by_test false apart true at_x same next = rw at_x refl
        by_test false apart false away same next = rw away (next (sym (tests x) ∙ away))

    -- of each key the first one stays
    pub first_of_key_stays : (xs : List T) → find has_key (first_of_each_key cmp key xs) ≡ find has_key xs
    first_of_key_stays xs =
        first_behind None (in_order (is_lower cmp key) xs) refl
        ∙ find_from_filter has_key (in_order (is_lower cmp key) xs) xs (filter_in_order has_key apart xs)

module _ {A B K : Type 0} (f : A → B) (cmp : K → K → Ordering) (key : B → K) where
  -- an element written otherwise goes to the same place
  map-put : (x : A) (ys : List A)
      → map f (put (is_lower cmp (λ a. key (f a))) x ys) ≡ put (is_lower cmp key) (f x) (map f ys)
  map-put x [] = refl
  map-put x (y ∷ ys) = by_test (is_lower cmp key (f y) (f x)) (map-put x ys) where
    by_test : (t : Bool)
        → map f (put (is_lower cmp (λ a. key (f a))) x ys) ≡ put (is_lower cmp key) (f x) (map f ys)
        → map f (cond t (y ∷ put (is_lower cmp (λ a. key (f a))) x ys) (x ∷ y ∷ ys))
        ≡ cond t (f y ∷ put (is_lower cmp key) (f x) (map f ys)) (f x ∷ f y ∷ map f ys)
    by_test true rest = ap (λ (zs : List B). f y ∷ zs) rest
    by_test false rest = refl

  -- elements written otherwise stand in the same order
  map-in_order : (xs : List A)
      → map f (in_order (is_lower cmp (λ a. key (f a))) xs) ≡ in_order (is_lower cmp key) (map f xs)
  map-in_order [] = refl
  map-in_order (x ∷ xs) =
      map-put x (in_order (is_lower cmp (λ a. key (f a))) xs) ∙ ap (put (is_lower cmp key) (f x)) (map-in_order xs)

  -- and the same ones of them stay
  map-firsts_after : (before : Option K) (xs : List A)
      → map f (firsts_after cmp (λ a. key (f a)) before xs) ≡ firsts_after cmp key before (map f xs)
  map-firsts_after before [] = refl
  map-firsts_after before (x ∷ xs) =
      by_test (is_same_key cmp before (key (f x))) (map-firsts_after before xs) (map-firsts_after (Some (key (f x))) xs)
    where
      by_test : (t : Bool)
          → map f (firsts_after cmp (λ a. key (f a)) before xs) ≡ firsts_after cmp key before (map f xs)
          → map f (firsts_after cmp (λ a. key (f a)) (Some (key (f x))) xs)
          ≡ firsts_after cmp key (Some (key (f x))) (map f xs)
          → map f (cond t (firsts_after cmp (λ a. key (f a)) before xs)
          (x ∷ firsts_after cmp (λ a. key (f a)) (Some (key (f x))) xs))
          ≡ cond t (firsts_after cmp key before (map f xs)) (f x ∷ firsts_after cmp key (Some (key (f x))) (map f xs))
      by_test true same other = same
      by_test false same other = ap (λ (zs : List B). f x ∷ zs) other

  -- of each key the first, whichever way entries are written
  pub map-first_of_each_key : (xs : List A)
      → map f (first_of_each_key cmp (λ a. key (f a)) xs) ≡ first_of_each_key cmp key (map f xs)
  map-first_of_each_key xs =
      map-firsts_after None (in_order (is_lower cmp (λ a. key (f a))) xs)
      ∙ ap (firsts_after cmp key None) (map-in_order xs)

  -- keys that ascend do however entries are written
  pub map-KeysAscend : (xs : List A) → KeysAscend cmp (λ a. key (f a)) xs → KeysAscend cmp key (map f xs)
  map-KeysAscend [] up = tt
  map-KeysAscend (x ∷ xs) up = (all_map xs up.0, map-KeysAscend xs up.1) where
    all_map : (ys : List A) → AllByRecursion (λ y. is_lower cmp (λ a. key (f a)) x y ≡ true) ys
        → AllByRecursion (λ y. is_lower cmp key (f x) y ≡ true) (map f ys)
    all_map [] all = tt
    all_map (y ∷ ys) all = (all.0, all_map ys all.1)
