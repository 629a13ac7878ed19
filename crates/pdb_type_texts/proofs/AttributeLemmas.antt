-- The pointers of a chain, of which the last collected stands last in a vector and first in the definitions.
use Rattle.std.proofs.Common.{◌≡◌, ◌∙◌, ℕ, ◌+◌, Bool, List, [], ◌∷◌, ◌++◌, reverse, length, get_or, set, take}
use Rattle.std.proofs.Common.{sym, ap, arith}
use Rattle.std.proofs.lemmas.List.{take_more, take_more_set, reverse-append, take_all, length-set}
use Rattle.pdb_type_texts.specs.Attributes.{Attribute, with_target}

-- a pointer that points to something constant or not
abbrev pub pointing_to : Bool → Attribute → Attribute
pointing_to constant a = record { points = a.points; constant_pointer = a.constant_pointer; constant_target = constant }

-- a list with its last element written is what stands before it, and that element
set-last : (xs : List Attribute) (n : ℕ) (y : Attribute) → n + 1 ≡ length xs → set xs n y ≡ take n xs ++ (y ∷ [])
set-last xs n y last = grind (arith, take_more_set xs n y, take_all (n + 1) (set xs n y), length-set xs n y)

-- a list is what stands before its last element, and that element
last-split : (xs : List Attribute) (n : ℕ) (x : Attribute) → n + 1 ≡ length xs → x ≡ get_or xs n x
    → xs ≡ take n xs ++ (x ∷ [])
last-split xs n x last is = grind (arith, take_more xs n x, take_all (n + 1) xs)

-- to write the last of a vector is to write the first of the definitions
pub with_target-last : (constant : Bool) (xs : List Attribute) (n : ℕ) (x : Attribute) → n + 1 ≡ length xs
    → x ≡ get_or xs n x → reverse (set xs n (pointing_to constant x)) ≡ with_target constant (reverse xs)
with_target-last constant xs n x last is =
    let y : Attribute = pointing_to constant x in
    ap reverse (set-last xs n y last) ∙ (reverse-append (take n xs) (y ∷ [])
    ∙ ap (with_target constant) (sym (ap reverse (last-split xs n x last is) ∙ reverse-append (take n xs) (x ∷ []))))
