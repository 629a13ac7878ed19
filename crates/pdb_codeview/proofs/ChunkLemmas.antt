-- The elements with one number in a list in order: they stand between those below it and those above it.
use Rattle.std.proofs.Common.{◌≡◌, ◌∙◌, ℕ, zero, suc, ◌-◌, ◌≤◌, ◌<◌, true, false, cond, nat_lt, nat_le, List, [], ◌∷◌}
use Rattle.std.proofs.Common.{take, drop, length, length-drop, get_or, refl, sym, ap, subst, arith}
use Rattle.std.proofs.lemmas.Grind.{common_steps}
use Rattle.std.specs.Prelude.{◌==◌}
use Rattle.std.specs.List.{filter}

-- a number that is not less than another, and not more, is that one
is_same : (a b : ℕ) → nat_lt a b ≡ false → nat_le a b ≡ true → (a == b) ≡ true
is_same a b low high = grind (arith, common_steps, low, high)

-- a number that is less is another one
less_is_another : (a b : ℕ) → nat_lt a b ≡ true → (a == b) ≡ false
less_is_another a b less = grind (arith, common_steps, less)

-- a number that is more is another one
more_is_another : (a b : ℕ) → nat_le a b ≡ false → (a == b) ≡ false
more_is_another a b more = grind (arith, common_steps, more)

-- of a list with nothing below the number, those that aren't above it have it
not_above : {X : Type 0} (number : X → ℕ) (wanted : ℕ) (xs : List X) (count : ℕ) → count ≤ length xs
    → ((k : ℕ) (d : X) → k < length xs → nat_lt (number (get_or xs k d)) wanted ≡ false)
    → ((k : ℕ) (d : X) → k < count → nat_le (number (get_or xs k d)) wanted ≡ true)
    → ((k : ℕ) (d : X) → count ≤ k → k < length xs → nat_le (number (get_or xs k d)) wanted ≡ false)
    → take count xs ≡ filter (λ x. number x == wanted) xs
not_above number wanted [] zero within from up_to above = refl
not_above number wanted [] (suc count) within from up_to above = absurd (omega (arith, within))
not_above {X = X} number wanted (x ∷ xs) zero within from up_to above =
    let rest : List X = filter (λ y. number y == wanted) xs in
    let here : (number x == wanted) ≡ false
    = more_is_another (number x) wanted (above 0 x (omega arith) (omega arith)) in
    not_above number wanted xs zero (omega arith) (λ k d inside. from (suc k) d (omega (arith, inside)))
    (λ k d none. absurd (omega (arith, none))) (λ k d more inside. above (suc k) d (omega arith) (omega (arith, inside)))
    ∙ sym (ap (λ t. cond t (x ∷ rest) rest) here)
not_above {X = X} number wanted (x ∷ xs) (suc count) within from up_to above =
    let rest : List X = filter (λ y. number y == wanted) xs in
    let here : (number x == wanted) ≡ true
    = is_same (number x) wanted (from 0 x (omega arith)) (up_to 0 x (omega arith)) in
    ap (λ ys. x ∷ ys) (not_above number wanted xs count (omega (arith, within))
    (λ k d inside. from (suc k) d (omega (arith, inside))) (λ k d less. up_to (suc k) d (omega (arith, less)))
    (λ k d more inside. above (suc k) d (omega (arith, more)) (omega (arith, inside))))
    ∙ sym (ap (λ t. cond t (x ∷ rest) rest) here)

-- those that aren't above the number, of what is left behind those below it, have it
between : {X : Type 0} (number : X → ℕ) (wanted : ℕ) (xs : List X) (first count : ℕ) → first ≤ length xs
    → ((k : ℕ) (d : X) → k < first → nat_lt (number (get_or xs k d)) wanted ≡ true)
    → ((k : ℕ) (d : X) → first ≤ k → k < length xs → nat_lt (number (get_or xs k d)) wanted ≡ false)
    → count ≤ length (drop first xs)
    → ((k : ℕ) (d : X) → k < count → nat_le (number (get_or (drop first xs) k d)) wanted ≡ true)
    → ((k : ℕ) (d : X) → count ≤ k → k < length (drop first xs)
    → nat_le (number (get_or (drop first xs) k d)) wanted ≡ false)
    → take count (drop first xs) ≡ filter (λ x. number x == wanted) xs
between number wanted xs zero count low below from within up_to above =
    not_above number wanted xs count within (λ k d inside. from k d (omega arith) inside) up_to above
between number wanted [] (suc first) count low below from within up_to above = absurd (omega (arith, low))
between {X = X} number wanted (x ∷ xs) (suc first) count low below from within up_to above =
    let rest : List X = filter (λ y. number y == wanted) xs in
    let here : (number x == wanted) ≡ false = less_is_another (number x) wanted (below 0 x (omega arith)) in
    between number wanted xs first count (omega (arith, low)) (λ k d less. below (suc k) d (omega (arith, less)))
    (λ k d more inside. from (suc k) d (omega (arith, more)) (omega (arith, inside))) within up_to above
    ∙ sym (ap (λ t. cond t (x ∷ rest) rest) here)

-- as many elements as a list has, or more, are all
all_taken : {X : Type 0} (xs : List X) (count : ℕ) → length xs ≤ count → take count xs ≡ xs
all_taken [] zero more = refl
all_taken [] (suc count) more = refl
all_taken (x ∷ xs) zero more = absurd (omega (arith, more))
all_taken (x ∷ xs) (suc count) more = ap (λ ys. x ∷ ys) (all_taken xs count (omega (arith, more)))

-- what is left behind a place is as long as the list is after it
pub rest_is : {X : Type 0} (xs : List X) (first : ℕ) → take (length xs - first) (drop first xs) ≡ drop first xs
rest_is xs first =
    let long : length (drop first xs) ≡ length xs - first = length-drop first xs in
    all_taken (drop first xs) (length xs - first) (omega (arith, long))

-- the same of a list that is what is left
pub between_rest : {X : Type 0} (number : X → ℕ) (wanted : ℕ) (xs rest : List X) (first count : ℕ)
    → rest ≡ drop first xs → first ≤ length xs
    → ((k : ℕ) (d : X) → k < first → nat_lt (number (get_or xs k d)) wanted ≡ true)
    → ((k : ℕ) (d : X) → first ≤ k → k < length xs → nat_lt (number (get_or xs k d)) wanted ≡ false)
    → count ≤ length rest → ((k : ℕ) (d : X) → k < count → nat_le (number (get_or rest k d)) wanted ≡ true)
    → ((k : ℕ) (d : X) → count ≤ k → k < length rest → nat_le (number (get_or rest k d)) wanted ≡ false)
    → take count rest ≡ filter (λ x. number x == wanted) xs
between_rest {X = X} number wanted xs rest first count is low below from =
    subst (λ (ys : List X). count ≤ length ys → ((k : ℕ) (d : X) → k < count → nat_le (number (get_or ys k d)) wanted ≡ true)
    → ((k : ℕ) (d : X) → count ≤ k → k < length ys → nat_le (number (get_or ys k d)) wanted ≡ false)
    → take count ys ≡ filter (λ x. number x == wanted) xs) (sym is)
    (between number wanted xs first count low below from)
