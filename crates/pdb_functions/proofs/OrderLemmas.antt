-- Lists in order have the elements that they had before; what holds of all elements.
use Rattle.std.proofs.Common.{◌≡◌, ◌∙◌, Bool, true, false, cond, List, [], ◌∷◌, refl, ap}
use Rattle.std.specs.Prelude.{⊤, ◌||◌}
use Rattle.std.specs.List.{AllByRecursion, list_any}
use Rattle.pdb_tables.specs.InOrder.{put, in_order}
use Rattle.pdb_tables.proofs.SortLemmas.{all_put}

-- what holds of each element holds of each in a weaker form
pub all_weaker : {T : Type 0} (P Q : T → Type 0) → ((x : T) → P x → Q x) → (xs : List T) → AllByRecursion P xs
    → AllByRecursion Q xs
all_weaker P Q weaker [] all = tt
all_weaker P Q weaker (x ∷ xs) all = (weaker x all.0, all_weaker P Q weaker xs all.1)

-- what holds of each element holds of each in order
pub all_in_order : {T : Type 0} (before : T → T → Bool) (P : T → Type 0) (xs : List T) → AllByRecursion P xs
    → AllByRecursion P (in_order before xs)
all_in_order before P [] all = tt
all_in_order before P (x ∷ xs) all = all_put before P x (in_order before xs) all.0 (all_in_order before P xs all.1)

-- what holds of all after an element was put in holds of it and of the others
pub all_taken : {T : Type 0} (before : T → T → Bool) (P : T → Type 0) (x : T) (ys : List T)
    → AllByRecursion P (put before x ys) → P x × AllByRecursion P ys
all_taken before P x [] all = (all.0, tt)
all_taken {T = T} before P x (y ∷ ys) all = by_test (before y x) all (λ rest. all_taken before P x ys rest) where
  by_test : (b : Bool) → AllByRecursion P (cond b (y ∷ put before x ys) (x ∷ y ∷ ys))
      → (AllByRecursion P (put before x ys) → P x × AllByRecursion P ys) → P x × AllByRecursion P (y ∷ ys)
  by_test true all others = let rest = others all.1 in (rest.0, (all.0, rest.1))
  by_test false all others = (all.0, all.1)

-- what holds of each in order holds of each element
pub all_of_order : {T : Type 0} (before : T → T → Bool) (P : T → Type 0) (xs : List T)
    → AllByRecursion P (in_order before xs) → AllByRecursion P xs
all_of_order before P [] all = tt
all_of_order before P (x ∷ xs) all = let taken =
    all_taken before P x (in_order before xs) all in (taken.0, all_of_order before P xs taken.1)

-- of two tests it does not matter which comes first
or_swap : (a b c : Bool) → (a || (b || c)) ≡ (b || (a || c))
or_swap true true c = refl
or_swap true false c = refl
or_swap false true c = refl
or_swap false false c = refl

-- putting an element in its place leaves it in the list
pub any-put : {T : Type 0} (before : T → T → Bool) (p : T → Bool) (x : T) (ys : List T)
    → list_any p (put before x ys) ≡ (p x || list_any p ys)
any-put before p x [] = refl
any-put before p x (y ∷ ys) = by_test (before y x) (any-put before p x ys) where
  by_test : (t : Bool) → list_any p (put before x ys) ≡ (p x || list_any p ys)
      → list_any p (cond t (y ∷ put before x ys) (x ∷ y ∷ ys)) ≡ (p x || (p y || list_any p ys))
  by_test true rest = ap (λ b. p y || b) rest ∙ or_swap (p y) (p x) (list_any p ys)
  by_test false rest = refl

-- a list in order has the same elements
pub any-in_order : {T : Type 0} (before : T → T → Bool) (p : T → Bool) (xs : List T)
    → list_any p (in_order before xs) ≡ list_any p xs
any-in_order before p [] = refl
any-in_order before p (x ∷ xs) = any-put before p x (in_order before xs) ∙ ap (λ b. p x || b) (any-in_order before p xs)

-- what holds of nothing more holds of all
all_tt : {T : Type 0} (xs : List T) → AllByRecursion (λ x. ⊤) xs
all_tt [] = tt
all_tt (x ∷ xs) = (tt, all_tt xs)

-- two facts that hold of each element hold of it together
all_both : {T : Type 0} (P Q : T → Type 0) (xs : List T) → AllByRecursion P xs → AllByRecursion Q xs
    → AllByRecursion (λ x. P x × Q x) xs
all_both P Q [] first second = tt
all_both P Q (x ∷ xs) first second = ((first.0, second.0), all_both P Q xs first.1 second.1)

-- what holds of each pair of two lists may be shown from either list
pub all_pairs : {S T : Type 0} (R : S → T → Type 0) (xs : List S) (ys : List T)
    → AllByRecursion (λ y. AllByRecursion (λ x. R x y) xs) ys → AllByRecursion (λ x. AllByRecursion (R x) ys) xs
all_pairs R xs [] all = all_tt xs
all_pairs R xs (y ∷ ys) all = all_both (λ x. R x y) (λ x. AllByRecursion (R x) ys) xs all.0 (all_pairs R xs ys all.1)
