-- Picks the element with the greatest start among those that pass a test.
use Rattle.std.specs.Prelude.{◌≡◌, ℕ, ◌<◌, ◌≤◌, Bool, true, List, [], ◌∷◌}
use Rattle.std.specs.Prelude.{◌++◌, Option, Some, None, nat_lt, if◌then◌else◌}
use Rattle.std.specs.List.{AllByRecursion}

-- the element with the greater start; of equal starts the first
abbrev pub later_start : {T : Type 0} → (T → ℕ) → Option T → Option T → Option T
later_start start None b = b
later_start start (Some a) None = Some a
later_start start (Some a) (Some b) = if nat_lt (start a) (start b) then Some b else Some a

-- the element with the greatest start among those that pass the test; of equal starts the first
abbrev pub pick : {T : Type 0} → (T → Bool) → (T → ℕ) → List T → Option T
pick over start [] = None
pick over start (x ∷ xs) = later_start start (if over x then Some x else None) (pick over start xs)

-- an element passes the test; of the others that do, those before it in the list have a lower start, and those after it
-- don't have a greater one
pub record IsPick {T : Type 0} (over : T → Bool) (start : T → ℕ) (xs : List T) (x : T) : Type 0 where
  pub ahead : List T
  pub behind : List T
  pub split : xs ≡ ahead ++ x ∷ behind
  pub passes : over x ≡ true
  pub earlier : AllByRecursion (λ y. over y ≡ true → start y < start x) ahead
  pub no_later : AllByRecursion (λ y. over y ≡ true → start y ≤ start x) behind

-- the picked element is such a one, or nothing passes the test
abbrev pub IsPicked : {T : Type 0} → (T → Bool) → (T → ℕ) → List T → Option T → Type 0
IsPicked over start xs (Some x) = IsPick over start xs x
IsPicked over start xs None = AllByRecursion (λ y. over y ≡ true → ⊥) xs
