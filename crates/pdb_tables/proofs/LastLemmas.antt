-- The last element that passes a test: how it comes about, and that it is picked where starts climb.
use Rattle.std.proofs.Common.{◌≡◌, ◌∙◌, ℕ, ◌<◌, Bool, true, false, cond, List, [], ◌∷◌, ◌++◌, map, reverse, Option}
use Rattle.std.proofs.Common.{Some, None, refl, sym, ap, subst}
use Rattle.std.specs.Prelude.{⊤, find, option_map, if◌then◌else◌}
use Rattle.std.specs.Option.{option_or}
use Rattle.std.specs.List.{AllByRecursion}
use Rattle.std.proofs.lemmas.Bool.{lt-ltb}
use Rattle.std.proofs.lemmas.Grind.{reverse_onto}
use Rattle.pdb_tables.specs.Last.{last_over}
use Rattle.pdb_tables.specs.Pick.{pick, later_start}

-- one more element comes last where it passes the test
last_over-push : {T : Type 0} (over : T → Bool) (before : Option T) (xs : List T) (x : T)
    → last_over over before (xs ++ x ∷ []) ≡ (if over x then Some x else last_over over before xs)
last_over-push over before [] x = refl
last_over-push over before (y ∷ xs) x = last_over-push over (if over y then Some y else before) xs x

-- the last of a list that is turned round is the first of the list
pub last_over-reverse : {T : Type 0} (over : T → Bool) (xs : List T) → last_over over None (reverse xs) ≡ find over xs
last_over-reverse over [] = refl
last_over-reverse over (x ∷ xs) =
    rw (reverse_onto xs x [], last_over-push over None (reverse xs) x, last_over-reverse over xs) refl

-- what is last may be written otherwise
pub map-last_over : {A B : Type 0} (f : A → B) (over : B → Bool) (before : Option A) (xs : List A)
    → option_map f (last_over (λ x. over (f x)) before xs) ≡ last_over over (option_map f before) (map f xs)
map-last_over f over before [] = refl
map-last_over {A = A} {B = B} f over before (x ∷ xs) =
    map-last_over f over (cond (over (f x)) (Some x) before) xs ∙ ap (λ o. last_over over o (map f xs))
    (by_test (over (f x)))
  where
    by_test : (t : Bool) → option_map f (cond t (Some x) before) ≡ cond t (Some (f x)) (option_map f before)
    by_test true = refl
    by_test false = refl

-- what comes last comes before what was there
pub last_over-or : {T : Type 0} (over : T → Bool) (before : Option T) (xs : List T)
    → last_over over before xs ≡ option_or (last_over over None xs) before
last_over-or over before [] = refl
last_over-or {T = T} over before (x ∷ xs) =
    by_test (over x) (last_over-or over (Some x) xs) (last_over-or over before xs)
  where
    first_or : (a : Option T) → option_or a (Some x) ≡ option_or (option_or a (Some x)) before
    first_or None = refl
    first_or (Some y) = refl

    by_test : (t : Bool) → last_over over (Some x) xs ≡ option_or (last_over over None xs) (Some x)
        → last_over over before xs ≡ option_or (last_over over None xs) before
        → last_over over (cond t (Some x) before) xs ≡ option_or (last_over over (cond t (Some x) None) xs) before
    by_test true here rest = here ∙ first_or (last_over over None xs) ∙ ap (λ o. option_or o before) (sym here)
    by_test false here rest = rest

-- of those that pass a test each starts at a smaller number than all that follow
abbrev pub Climbs : {T : Type 0} → (T → Bool) → (T → ℕ) → List T → Type 0
Climbs over start [] = ⊤
Climbs over start (x ∷ xs) = AllByRecursion (λ y. over x ≡ true → over y ≡ true → start x < start y) xs
    × Climbs over start xs

-- of what starts at greater and greater numbers the last is picked
pub pick-last : {T : Type 0} (over : T → Bool) (start : T → ℕ) (xs : List T) → Climbs over start xs
    → pick over start xs ≡ last_over over None xs
pick-last over start [] up = refl
pick-last {T = T} over start (x ∷ xs) up =
    ap (λ o. later_start start (cond (over x) (Some x) None) o) (pick-last over start xs up.1)
    ∙ by_test (over x) refl (last_over over None xs) (last_is xs up.0)
    ∙ sym (last_over-or over (cond (over x) (Some x) None) xs)
  where
    IsLater : Option T → Type 0
    IsLater None = ⊤
    IsLater (Some y) = over x ≡ true → start x < start y

    last_is : (ys : List T) → AllByRecursion (λ y. over x ≡ true → over y ≡ true → start x < start y) ys
        → IsLater (last_over over None ys)
    last_is [] later = tt
    last_is (y ∷ ys) later =
        subst IsLater (sym (last_over-or over (cond (over y) (Some y) None) ys))
        (either (over y) refl (last_over over None ys) (last_is ys later.1))
      where
        either : (t : Bool) → over y ≡ t → (o : Option T) → IsLater o → IsLater (option_or o (cond t (Some y) None))
        either true is None known = λ here. later.0 here is
        either true is (Some z) known = known
        either false is None known = tt
        either false is (Some z) known = known

    by_test : (t : Bool) → over x ≡ t → (o : Option T) → IsLater o
        → later_start start (cond t (Some x) None) o ≡ option_or o (cond t (Some x) None)
    by_test true is None known = refl
    by_test true is (Some y) known = rw (lt-ltb (start x) (start y) (known is)) refl
    by_test false is None known = refl
    by_test false is (Some y) known = refl
