-- Of what lies over a place, the one that starts last.
use Rattle.std.proofs.Common.{◌≡◌, ℕ, ◌<◌, ◌≤◌, Bool, true, false, cond, List, [], ◌∷◌, ◌++◌, map, Option, Some, None}
use Rattle.std.proofs.Common.{refl, ap, ◌∙◌, inl, inr, arith}
use Rattle.std.specs.Prelude.{◌⊎◌, nat_lt, option_map}
use Rattle.std.specs.List.{AllByRecursion}
use Rattle.std.proofs.lemmas.Bool.Decides.{nat_tests}
use Rattle.pdb_tables.proofs.NumberLemmas.{cases_lt}
use Rattle.pdb_tables.specs.Pick.{pick, later_start, IsPick, IsPicked}

-- of three, it does not matter which two are compared first
pub later_start_assoc : {T : Type 0} (start : T → ℕ) (a b c : Option T)
    → later_start start (later_start start a b) c ≡ later_start start a (later_start start b c)
later_start_assoc start None b c = refl
later_start_assoc start (Some a) None c = refl
later_start_assoc start (Some a) (Some b) None = by_test (nat_lt (start a) (start b)) where
  by_test : (t : Bool) → later_start start (cond t (Some b) (Some a)) None ≡ cond t (Some b) (Some a)
  by_test true = refl
  by_test false = refl
later_start_assoc start (Some a) (Some b) (Some c) = grind (arith, nat_tests)

-- what is compared may be written otherwise
pub map-later_start : {A B : Type 0} (f : A → B) (start : B → ℕ) (a b : Option A)
    → option_map f (later_start (λ x. start (f x)) a b) ≡ later_start start (option_map f a) (option_map f b)
map-later_start f start None b = refl
map-later_start f start (Some a) None = refl
map-later_start f start (Some a) (Some b) = by_test (nat_lt (start (f a)) (start (f b))) where
  by_test : (t : Bool) → option_map f (cond t (Some b) (Some a)) ≡ cond t (Some (f b)) (Some (f a))
  by_test true = refl
  by_test false = refl

-- what is picked does not depend on how it is written
pub map-pick : {A B : Type 0} (f : A → B) (over : B → Bool) (start : B → ℕ) (xs : List A)
    → option_map f (pick (λ x. over (f x)) (λ x. start (f x)) xs) ≡ pick over start (map f xs)
map-pick f over start [] = refl
map-pick {A = A} {B = B} f over start (x ∷ xs) =
    map-later_start f start (cond (over (f x)) (Some x) None) (pick (λ y. over (f y)) (λ y. start (f y)) xs)
    ∙ (ap (λ (b : Option B). later_start start b (option_map f (pick (λ y. over (f y)) (λ y. start (f y)) xs)))
    (by_test (over (f x)))
    ∙ ap (λ (b : Option B). later_start start (cond (over (f x)) (Some (f x)) None) b) (map-pick f over start xs))
  where
    by_test : (t : Bool) → option_map f (cond t (Some x) None) ≡ cond t (Some (f x)) None
    by_test true = refl
    by_test false = refl

-- where all start no later than one, they start no later than a greater start
no_later_than : {T : Type 0} (over : T → Bool) (start : T → ℕ) (m n : ℕ) (xs : List T) → m ≤ n
    → AllByRecursion (λ y. over y ≡ true → start y ≤ m) xs → AllByRecursion (λ y. over y ≡ true → start y ≤ n) xs
no_later_than over start m n [] below all = tt
no_later_than over start m n (x ∷ xs) below all =
    ((λ passes. let h : start x ≤ m = all.0 passes in omega arith), no_later_than over start m n xs below all.1)

-- where nothing passes, anything may be said of what passes
none_passes : {T : Type 0} (over : T → Bool) (start : T → ℕ) (n : ℕ) (xs : List T)
    → AllByRecursion (λ y. over y ≡ true → ⊥) xs → AllByRecursion (λ y. over y ≡ true → start y ≤ n) xs
none_passes over start n [] none = tt
none_passes over start n (x ∷ xs) none = ((λ passes. absurd (none.0 passes)), none_passes over start n xs none.1)

-- where all ahead start earlier than the pick, and all behind no later, none starts later
all_no_later : {T : Type 0} (over : T → Bool) (start : T → ℕ) (x : T) (ahead behind : List T) → over x ≡ true
    → AllByRecursion (λ y. over y ≡ true → start y < start x) ahead
    → AllByRecursion (λ y. over y ≡ true → start y ≤ start x) behind
    → AllByRecursion (λ y. over y ≡ true → start y ≤ start x) (ahead ++ x ∷ behind)
all_no_later over start x [] behind passes earlier later = ((λ _. omega arith), later)
all_no_later over start x (y ∷ ys) behind passes earlier later = (
  (λ here. let h : start y < start x = earlier.0 here in omega arith),
  all_no_later over start x ys behind passes earlier.1 later,
)

-- a pick passes, no other that passes starts later, and of equal starts it is the first
pub pick_is_picked : {T : Type 0} (over : T → Bool) (start : T → ℕ) (xs : List T)
    → IsPicked over start xs (pick over start xs)
pick_is_picked over start [] = tt
pick_is_picked {T = T} over start (x ∷ xs) =
    by_test (over x) refl (pick over start xs) (pick_is_picked over start xs) where
      by_start : (y : T) → over x ≡ true → IsPick over start xs y
          → ((nat_lt (start x) (start y) ≡ true) × (start x < start y)) ⊎
          ((nat_lt (start x) (start y) ≡ false) × (start y ≤ start x))
          → IsPicked over start (x ∷ xs) (cond (nat_lt (start x) (start y)) (Some y) (Some x))
      by_start y passes found (inl less) = rw less.0 (record {
        ahead = x ∷ found.ahead;
        behind = found.behind;
        split = ap (λ (rest : List T). x ∷ rest) found.split;
        passes = found.passes;
        earlier = ((λ _. less.1), found.earlier);
        no_later = found.no_later;
      })
      by_start y passes found (inr more) = rw more.0 (record {
        ahead = [];
        behind = xs;
        split = refl;
        passes = passes;
        earlier = tt;
        no_later = rw found.split (no_later_than over start (start y) (start x) (found.ahead ++ y ∷ found.behind) more.1
            (all_no_later over start y found.ahead found.behind found.passes found.earlier found.no_later));
      })

      by_test : (t : Bool) → over x ≡ t → (picked : Option T) → IsPicked over start xs picked
          → IsPicked over start (x ∷ xs) (later_start start (cond t (Some x) None) picked)
      by_test true passes None none =
          record {
            ahead = [];
            behind = xs;
            split = refl;
            passes = passes;
            earlier = tt;
            no_later =
                none_passes over start (start x) xs none;
          }
      by_test true passes (Some y) found = by_start y passes found (cases_lt (start x) (start y))
      by_test false fails None none = ((λ passes. let no : ⊥ = cc in no), none)
      by_test false fails (Some y) found = record {
        ahead = x ∷ found.ahead;
        behind = found.behind;
        split = ap (λ (rest : List T). x ∷ rest) found.split;
        passes = found.passes;
        earlier = ((λ passes. let no : ⊥ = cc in absurd no), found.earlier);
        no_later = found.no_later;
      }
