-- Where in a list a test begins to pass, if it goes on to pass from there on.
use Rattle.std.proofs.Common.{◌≡◌, ◌∙◌, ℕ, zero, suc, ◌+◌, ◌<◌, ◌≤◌, Bool, true, false, cond, not, List, [], ◌∷◌}
use Rattle.std.proofs.Common.{length, get_or, map, Option, Some, refl, inl, inr, arith}
use Rattle.std.specs.Prelude.{⊤, find, option_map}
use Rattle.std.specs.List.{AllByRecursion, position_or_len}
use Rattle.std.proofs.lemmas.Bool.{cases_lt}
use Rattle.std.proofs.lemmas.List.Sums.{fails_before_first}
use Rattle.pdb_tables.specs.Last.{ahead_of, last_over}

-- from the first that passes the test on, all do
abbrev pub GoesOn : {T : Type 0} → (T → Bool) → List T → Type 0
GoesOn p [] = ⊤
GoesOn p (x ∷ xs) = (p x ≡ true → AllByRecursion (λ y. p y ≡ true) xs) × GoesOn p xs

-- what holds of all holds of one
all_at : {T : Type 0} (P : T → Type 0) (xs : List T) (k : ℕ) (d : T) → k < length xs → AllByRecursion P xs
    → P (get_or xs k d)
all_at P [] k d within all = absurd (omega arith)
all_at P (x ∷ xs) zero d within all = all.0
all_at P (x ∷ xs) (suc k) d within all = all_at P xs k d (omega arith) all.1

-- one that passes is at the position or behind it
pub position_up_to : {T : Type 0} (p : T → Bool) (xs : List T) (k : ℕ) (d : T) → p (get_or xs k d) ≡ true
    → position_or_len p xs ≤ k
position_up_to p xs k d passes =
    elim (cases_lt k (position_or_len p xs)) [
      | inl ahead ↦ let fails = fails_before_first p xs k d ahead in absurd cc
      | inr behind ↦ behind
    ]

-- one that fails is ahead of it
pub position_past : {T : Type 0} (p : T → Bool) (xs : List T) (k : ℕ) (d : T) → GoesOn p xs → k < length xs
    → p (get_or xs k d) ≡ false
    → k < position_or_len p xs
position_past p [] k d on within fails = absurd (omega arith)
position_past p (x ∷ xs) zero d on within fails = rw fails (omega arith)
position_past {T = T} p (x ∷ xs) (suc k) d on within fails =
    by_test (p x) refl (position_past p xs k d on.1 (omega arith) fails) where
      by_test : (t : Bool) → p x ≡ t → k < position_or_len p xs → suc k < position_or_len p (x ∷ xs)
      by_test true passes rest = let all = all_at (λ y. p y ≡ true) xs k d (omega arith) (on.0 passes) in absurd cc
      by_test false is rest = rw is (omega arith)

-- the position is at most the length
pub position_within : {T : Type 0} (p : T → Bool) (xs : List T) → position_or_len p xs ≤ length xs
position_within p [] = omega arith
position_within p (x ∷ xs) = by_test (p x) refl (position_within p xs) where
  by_test : (t : Bool) → p x ≡ t → position_or_len p xs ≤ length xs → position_or_len p (x ∷ xs) ≤ length (x ∷ xs)
  by_test true passes rest = rw passes (omega arith)
  by_test false fails rest = rw fails (omega arith)

-- where all pass a test, none comes last of those that don't
last_of_none : {T : Type 0} (p : T → Bool) (before : Option T) (xs : List T) → AllByRecursion (λ y. p y ≡ true) xs
    → last_over (λ y. not (p y)) before xs ≡ before
last_of_none p before [] all = refl
last_of_none p before (x ∷ xs) all = rw all.0 (last_of_none p before xs all.1)

-- the last that fails stands ahead of the first that passes
pub last_ahead : {T : Type 0} (p : T → Bool) (before : Option T) (xs : List T) → GoesOn p xs
    → last_over (λ y. not (p y)) before xs ≡ ahead_of before xs (position_or_len p xs)
last_ahead p before [] on = refl
last_ahead {T = T} p before (x ∷ xs) on = by_test (p x) refl (last_ahead p (Some x) xs on.1) where
  by_count : (n : ℕ) → ahead_of (Some x) xs n ≡ ahead_of before (x ∷ xs) (suc n)
  by_count zero = refl
  by_count (suc k) = refl

  one_more : (n : ℕ) → 1 + n ≡ suc n
  one_more n = omega arith

  by_test : (t : Bool) → p x ≡ t → last_over (λ y. not (p y)) (Some x) xs ≡ ahead_of (Some x) xs (position_or_len p xs)
      → last_over (λ y. not (p y)) before (x ∷ xs) ≡ ahead_of before (x ∷ xs) (position_or_len p (x ∷ xs))
  by_test true passes rest = rw passes (last_of_none p before xs (on.0 passes))
  by_test false fails rest = rw (fails, one_more) (rest ∙ by_count (position_or_len p xs))

-- what is first may be written otherwise
pub map-find : {A B : Type 0} (f : A → B) (p : B → Bool) (xs : List A)
    → option_map f (find (λ x. p (f x)) xs) ≡ find p (map f xs)
map-find f p [] = refl
map-find {A = A} {B = B} f p (x ∷ xs) = by_test (p (f x)) (map-find f p xs) where
  by_test : (t : Bool) → option_map f (find (λ y. p (f y)) xs) ≡ find p (map f xs)
      → option_map f (cond t (Some x) (find (λ y. p (f y)) xs)) ≡ cond t (Some (f x)) (find p (map f xs))
  by_test true rest = refl
  by_test false rest = rest
