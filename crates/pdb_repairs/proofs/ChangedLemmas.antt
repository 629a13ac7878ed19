-- Lists whose elements are changed one after the other.
use Rattle.std.proofs.Common.{◌≡◌, ℕ, ◌+◌, ◌<◌, List, [], ◌∷◌, ◌++◌, length, get_or, map, set, take, drop}
use Rattle.std.proofs.Common.{◌∙◌, ap, arith, append_assoc, sym}
use Rattle.std.proofs.lemmas.List.{drop_more, take_more_set, drop-set-lt}

-- one more element is changed: what is left to change gives the same list
pub changed_more : {A : Type 0} (f : A → A) (xs : List A) (i : ℕ) (x : A) → i < length xs → x ≡ get_or xs i x
    → take (i + 1) (set xs i (f x)) ++ map f (drop (i + 1) (set xs i (f x))) ≡ take i xs ++ map f (drop i xs)
changed_more f xs i x below is =
    let t : take (i + 1) (set xs i (f x)) ≡ take i xs ++ f x ∷ [] = take_more_set xs i (f x) below in
    let d : drop (i + 1) (set xs i (f x)) ≡ drop (i + 1) xs = drop-set-lt (i + 1) xs i (f x) (omega arith) in
    let r : drop i xs ≡ x ∷ drop (i + 1) xs = drop_more xs i x below ∙ ap (λ y. y ∷ drop (i + 1) xs) (sym is) in
    rw (t, d, r) (append_assoc (take i xs) (f x ∷ []) (map f (drop (i + 1) xs)))
