-- What is found first of a list in order.
use Rattle.std.proofs.Common.{◌≡◌, ◌∙◌, suc, Bool, true, false, List, [], ◌∷◌, length, refl, ap, find}
use Rattle.std.proofs.Common.{Some, None, if◌then◌else◌}
use Rattle.std.specs.List.{AllByRecursion}
use Rattle.pdb_tables.specs.InOrder.{in_order, put}

-- what holds of an element and of others holds of them all, wherever the element is put
put_all : {T : Type 0} (P : T → Type 0) (before : T → T → Bool) (x : T) (xs : List T) → P x → AllByRecursion P xs
    → AllByRecursion P (put before x xs)
put_all P before x [] here all = (here, tt)
put_all {T} P before x (y ∷ ys) here all = by (before y x) (put_all P before x ys here all.1)
  where
    by : (t : Bool) → AllByRecursion P (put before x ys)
        → AllByRecursion P (if t then y ∷ put before x ys else x ∷ y ∷ ys)
    by true rest = (all.0, rest)
    by false rest = (here, all)

-- what holds of all of a list holds of all of it in order
pub in_order_all : {T : Type 0} (P : T → Type 0) (before : T → T → Bool) (xs : List T) → AllByRecursion P xs
    → AllByRecursion P (in_order before xs)
in_order_all P before [] all = tt
in_order_all P before (x ∷ xs) all = put_all P before x (in_order before xs) all.0 (in_order_all P before xs all.1)

-- no element that passes a test stands after one that passes it and belongs after it
abbrev pub Keeps : {T : Type 0} → (T → Bool) → (T → T → Bool) → List T → Type 0
Keeps P before [] = Unit {0}
Keeps P before (x ∷ xs) =
    (P x ≡ true → AllByRecursion (λ y. P y ≡ true → before y x ≡ false) xs) × Keeps P before xs

-- an element that passes is found first where it is put, if no other that passes belongs in front of it
put_found : {T : Type 0} (P : T → Bool) (before : T → T → Bool) (x : T) (ys : List T) → P x ≡ true
    → AllByRecursion (λ y. P y ≡ true → before y x ≡ false) ys → find P (put before x ys) ≡ Some x
put_found P before x [] passes others = ap (λ t. if t then Some x else None) passes
put_found {T} P before x (y ∷ ys) passes others =
    by (before y x) refl (P y) refl (put_found P before x ys passes others.1)
  where
    by : (t : Bool) → before y x ≡ t → (u : Bool) → P y ≡ u → find P (put before x ys) ≡ Some x
        → find P (if t then y ∷ put before x ys else x ∷ y ∷ ys) ≡ Some x
    by true e true f rest = absurd (absurd_from (others.0 f) e)
      where
        absurd_from : before y x ≡ false → before y x ≡ true → ⊥
        absurd_from a b = cc (a, b)
    by true e false f rest = ap (λ t. if t then Some y else find P (put before x ys)) f ∙ rest
    by false e u f rest = ap (λ t. if t then Some x else find P (y ∷ ys)) passes

-- one that doesn't pass changes nothing
put_passed : {T : Type 0} (P : T → Bool) (before : T → T → Bool) (x : T) (ys : List T) → P x ≡ false
    → find P (put before x ys) ≡ find P ys
put_passed P before x [] fails = ap (λ t. if t then Some x else None) fails
put_passed {T} P before x (y ∷ ys) fails = by (before y x) (put_passed P before x ys fails)
  where
    by : (t : Bool) → find P (put before x ys) ≡ find P ys
        → find P (if t then y ∷ put before x ys else x ∷ y ∷ ys) ≡ find P (y ∷ ys)
    by true rest = ap (λ others. if P y then Some y else others) rest
    by false rest = ap (λ t. if t then Some x else find P (y ∷ ys)) fails

-- what is found first of a list is found first of the list in order
pub found_in_order : {T : Type 0} (P : T → Bool) (before : T → T → Bool) (xs : List T) → Keeps P before xs
    → find P (in_order before xs) ≡ find P xs
found_in_order P before [] keeps = refl
found_in_order {T} P before (x ∷ xs) keeps = by (P x) refl (found_in_order P before xs keeps.1)
  where
    by : (t : Bool) → P x ≡ t → find P (in_order before xs) ≡ find P xs
        → find P (put before x (in_order before xs)) ≡ (if t then Some x else find P xs)
    by true e rest =
        put_found P before x (in_order before xs) e
        (in_order_all (λ y. P y ≡ true → before y x ≡ false) before xs (keeps.0 e))
    by false e rest = put_passed P before x (in_order before xs) e ∙ rest

-- a list with one element more is longer by one
put_long : {T : Type 0} (before : T → T → Bool) (x : T) (ys : List T) → length (put before x ys) ≡ suc (length ys)
put_long before x [] = refl
put_long {T} before x (y ∷ ys) = by (before y x) (put_long before x ys)
  where
    by : (t : Bool) → length (put before x ys) ≡ suc (length ys)
        → length (if t then y ∷ put before x ys else x ∷ y ∷ ys) ≡ suc (suc (length ys))
    by true long = ap suc long
    by false long = refl

-- a list in order is as long
pub in_order_long : {T : Type 0} (before : T → T → Bool) (xs : List T) → length (in_order before xs) ≡ length xs
in_order_long before [] = refl
in_order_long before (x ∷ xs) = put_long before x (in_order before xs) ∙ ap suc (in_order_long before xs)
