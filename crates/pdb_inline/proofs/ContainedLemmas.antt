-- What is in a list.
use Rattle.std.proofs.Common.{◌≡◌, ℕ, zero, suc, Bool, true, List, [], ◌∷◌, Some, refl, arith, inl, inr}
use Rattle.std.specs.List.{AllByRecursion, Contains, list_any}
use Rattle.std.proofs.lemmas.Bool.{or_cases}
use Rattle.std.proofs.lemmas.List.Elements.{All-contains, All-from_recursion, Contains-append_right}
use Rattle.std.proofs.lemmas.List.Folds.{list_any_at}
use Rattle.pdb_tables.specs.Pick.{pick}
use Rattle.pdb_tables.proofs.PickLemmas.{pick_is_picked}

-- an element of the others is an element of the list
pub contains_later : {A : Type 0} (x y : A) (xs : List A) → Contains xs y → Contains (x ∷ xs) y
contains_later x y xs (k, within, is) = (suc k, omega arith, is)

-- the first element is an element
pub contains_first : {A : Type 0} (x : A) (xs : List A) → Contains (x ∷ xs) x
contains_first x xs = (zero, omega arith, refl)

-- what holds of all elements holds of one
pub all_at : {A : Type 0} (P : A → Type 0) (xs : List A) (y : A) → AllByRecursion P xs → Contains xs y → P y
all_at P xs y all there = All-contains P xs y (All-from_recursion P xs all) there

-- where one thing follows from another for each element, it holds of all where the other does
pub all_map : {A : Type 0} (P Q : A → Type 0) → ((x : A) → P x → Q x) → (xs : List A) → AllByRecursion P xs
    → AllByRecursion Q xs
all_map P Q each [] all = tt
all_map P Q each (x ∷ xs) all = (each x all.0, all_map P Q each xs all.1)

-- where an element passes a test, some do
pub any_contains : {A : Type 0} (p : A → Bool) (xs : List A) (y : A) → p y ≡ true → Contains xs y → list_any p xs ≡ true
any_contains p xs y passes (k, within, is) = list_any_at p xs k y within (rw is passes)

-- where some pass a test, there is an element that does
pub contains_any : {A : Type 0} (p : A → Bool) (xs : List A) → list_any p xs ≡ true
    → (y : A) × Contains xs y × (p y ≡ true)
contains_any p [] any = absurd cc
contains_any p (x ∷ xs) any =
    elim (or_cases (p x) (list_any p xs) any) [
      | inl here ↦ (x, contains_first x xs, here)
      | inr there ↦ let found = contains_any p xs there in (found.0, contains_later x found.0 xs found.1, found.2)
    ]

-- what is picked passes the test, and is one of the list
pub picked : {T : Type 0} (over : T → Bool) (start : T → ℕ) (xs : List T) (r : T) → pick over start xs ≡ Some r
    → (over r ≡ true) × Contains xs r
picked over start xs r is =
    let found = rw is at (pick_is_picked over start xs) in (
      found.passes,
      rw found.split (Contains-append_right found.ahead (r ∷ found.behind) r (contains_first r found.behind)),
    )
