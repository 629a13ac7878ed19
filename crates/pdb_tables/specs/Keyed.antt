-- Lists of keyed elements: sorted by key, with the first element of each key.
use Rattle.std.specs.Prelude.{◌≡◌, ⊤, Bool, true, false, List, [], ◌∷◌, Option, Some, None, if◌then◌else◌}
use Rattle.std.specs.List.{AllByRecursion}
use Rattle.std.specs.Ordering.{is_eq, is_lt}
use Rattle.std.specs.declared.cmp.Ordering.{Ordering}
use Rattle.pdb_tables.specs.InOrder.{in_order}

-- whether one element has a lower key than the other
abbrev pub is_lower : {T K : Type 0} → (K → K → Ordering) → (T → K) → T → T → Bool
is_lower cmp key a b = is_lt (cmp (key a) (key b))

-- whether the element before has this key
abbrev pub is_same_key : {K : Type 0} → (K → K → Ordering) → Option K → K → Bool
is_same_key cmp None key = false
is_same_key cmp (Some before) key = is_eq (cmp before key)

-- the first of each run of neighbours with the same key; the list follows an element with the key `before`, if any
abbrev pub firsts_after : {T K : Type 0} → (K → K → Ordering) → (T → K) → Option K → List T → List T
firsts_after cmp key before [] = []
firsts_after cmp key before (x ∷ xs) =
    if is_same_key cmp before (key x) then firsts_after cmp key before xs
    else x ∷ firsts_after cmp key (Some (key x)) xs

-- a list sorted by key, with only the first element of each key
abbrev pub first_of_each_key : {T K : Type 0} → (K → K → Ordering) → (T → K) → List T → List T
first_of_each_key cmp key xs = firsts_after cmp key None (in_order (is_lower cmp key) xs)

-- the keys ascend, without duplicates
abbrev pub KeysAscend : {T K : Type 0} → (K → K → Ordering) → (T → K) → List T → Type 0
KeysAscend cmp key [] = ⊤
KeysAscend cmp key (x ∷ xs) = AllByRecursion (λ y. is_lower cmp key x y ≡ true) xs × KeysAscend cmp key xs

-- whether a key is lower than that of an entry
abbrev pub is_above : {T K : Type 0} → (K → K → Ordering) → (T → K) → K → T → Bool
is_above cmp key_of key x = is_lt (cmp key (key_of x))
