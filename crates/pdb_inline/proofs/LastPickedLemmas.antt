-- Of a list by starts, where of equal starts the last stands first, the last over a number is the one that is picked.
use Rattle.std.proofs.Common.{◌≡◌, ◌∙◌, ℕ, ◌<◌, ◌≤◌, Bool, true, false, cond, List, [], ◌∷◌, ◌++◌, reverse, Option}
use Rattle.std.proofs.Common.{Some, None, refl, sym, arith}
use Rattle.std.specs.Prelude.{⊤}
use Rattle.std.specs.List.{AllByRecursion}
use Rattle.std.specs.Ordering.{nat_cmp, is_lt}
use Rattle.std.proofs.lemmas.Bool.{cond_both}
use Rattle.std.proofs.lemmas.Bool.Decides.{nat_tests}
use Rattle.std.proofs.lemmas.Cmp.{nat_cmp_total}
use Rattle.std.proofs.lemmas.Grind.{reverse_onto}
use Rattle.std.proofs.lemmas.List.{reverse-reverse}
use Rattle.std.proofs.lemmas.List.Sorted.{ranks_by}
use Rattle.pdb_tables.specs.InOrder.{put, in_order}
use Rattle.pdb_tables.specs.Keyed.{is_lower}
use Rattle.pdb_tables.specs.Last.{last_over}
use Rattle.pdb_tables.specs.Pick.{pick, later_start}
use Rattle.pdb_tables.proofs.NumberLemmas.{less_test}
use Rattle.pdb_tables.proofs.LastLemmas.{last_over-or}
use Rattle.pdb_tables.proofs.PickLemmas.{later_start_assoc}
use Rattle.pdb_tables.proofs.SortLemmas.{Rises, rises_in_order}
use Rattle.pdb_inline.proofs.ContainedLemmas.{all_map}

-- what comes before another number is smaller
less_from : (m n : ℕ) → is_lt (nat_cmp m n) ≡ true → m < n
less_from m n is = grind (arith, nat_tests, sym (less_test m n) ∙ is)

-- what doesn't is no smaller
pub no_less_from : (m n : ℕ) → is_lt (nat_cmp m n) ≡ false → n ≤ m
no_less_from m n is = grind (arith, nat_tests, sym (less_test m n) ∙ is)

-- one more that stands last is compared last
pick-push : {T : Type 0} (over : T → Bool) (start : T → ℕ) (xs : List T) (y : T)
    → pick over start (xs ++ y ∷ []) ≡ later_start start (pick over start xs) (cond (over y) (Some y) None)
pick-push over start [] y = grind arith
pick-push over start (x ∷ xs) y =
    rw (pick-push over start xs y) (sym (later_start_assoc start (cond (over x) (Some x) None) (pick over start xs)
    (cond (over y) (Some y) None)))

-- this holds of an element, if there is one
abbrev pub HoldsIfSome : {T : Type 0} → (T → Type 0) → Option T → Type 0
HoldsIfSome P None = ⊤
HoldsIfSome P (Some x) = P x

-- what holds of all, and of what was there before, holds of the last that passes
last_of_all : {T : Type 0} (P : T → Type 0) (over : T → Bool) (before : Option T) (xs : List T) → HoldsIfSome P before
    → AllByRecursion P xs → HoldsIfSome P (last_over over before xs)
last_of_all P over before [] there all = there
last_of_all P over before (x ∷ xs) there all = last_of_all P over (cond (over x) (Some x) before) xs
    (cond_both (over x) (Some x) before (HoldsIfSome P) (λ _. all.0) (λ _. there)) all.1

-- one that is put in its place is the last of those that pass, unless a later one passes
last_of_put : {T : Type 0} (over : T → Bool) (start : T → ℕ) (x : T) (ys : List T) → Rises (is_lower nat_cmp start) ys
    → last_over over None (put (is_lower nat_cmp start) x ys) ≡ later_start start (last_over over None ys)
    (cond (over x) (Some x) None)
last_of_put over start x [] up = refl
last_of_put {T = T} over start x (y ∷ ys) up =
    by_test (is_lower nat_cmp start y x) refl (last_of_put over start x ys up.1)
  where
    by_test : (b : Bool) → is_lower nat_cmp start y x ≡ b → last_over over None (put (is_lower nat_cmp start) x ys)
        ≡ later_start start (last_over over None ys) (cond (over x) (Some x) None)
        → last_over over None (cond b (y ∷ put (is_lower nat_cmp start) x ys) (x ∷ y ∷ ys))
        ≡ later_start start (last_over over None (y ∷ ys)) (cond (over x) (Some x) None)
    by_test true is rest =
        let less = less_from (start y) (start x) is in
        rw (
          last_over-or over (cond (over y) (Some y) None) (put (is_lower nat_cmp start) x ys),
          rest,
          last_over-or over (cond (over y) (Some y) None) ys,
        ) (grind (arith, nat_tests))
    by_test false is rest =
        let low : start x ≤ start y = no_less_from (start y) (start x) is in
        let later_ones = all_map (λ z. is_lower nat_cmp start z y ≡ false) (λ z. start x ≤ start z)
        (λ z not_lower. omega (arith, low, no_less_from (start z) (start y) not_lower)) ys up.0 in
        let starts = last_of_all (λ z. start x ≤ start z) over None (y ∷ ys) tt (low, later_ones) in
        rw (last_over-or over (cond (over x) (Some x) None) (y ∷ ys)) (grind (arith, nat_tests))

-- the last of a list in order is the one that is picked where the list is turned round
last_in_order : {T : Type 0} (over : T → Bool) (start : T → ℕ) (xs : List T)
    → last_over over None (in_order (is_lower nat_cmp start) xs) ≡ pick over start (reverse xs)
last_in_order over start [] = refl
last_in_order over start (x ∷ xs) =
    rw (reverse_onto xs x [], pick-push over start (reverse xs) x, ← last_in_order over start xs)
    (last_of_put over start x (in_order (is_lower nat_cmp start) xs)
    (rises_in_order (ranks_by nat_cmp_total start) xs))

-- of a list by starts, where of equal starts the last stands first, the last that passes is picked
pub last_is_picked : {T : Type 0} (over : T → Bool) (start : T → ℕ) (xs : List T)
    → last_over over None (in_order (is_lower nat_cmp start) (reverse xs)) ≡ pick over start xs
last_is_picked over start xs = last_in_order over start (reverse xs) ∙ rw (reverse-reverse xs) refl
