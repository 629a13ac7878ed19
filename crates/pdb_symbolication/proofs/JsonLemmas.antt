-- Values with commas between them, and objects.
use Rattle.std.proofs.Common.{◌≡◌, ◌≢◌, ◌∙◌, sym, ap, refl, ℕ, suc, ◌+◌, List, [], ◌∷◌, ◌++◌, append_assoc}
use Rattle.std.proofs.Common.{◌<◌, length, drop, drop-cons, get_or, add-one, map}
use Rattle.std.proofs.Common.{append-nil, Bool, true, false, Option, Some, None, Bor, arith}
use Rattle.std.specs.Prelude.{MatchOption, if◌then◌else◌, ◌==◌}
use Rattle.std.proofs.lemmas.Bool.Decides.{nat_tests}
use Rattle.pdb_symbolication.specs.JsonObjects.{comma_before, later, separated}

-- what is left to be written of values, before which some were written or none
abbrev pub left : Bool → List (List ℕ) → List ℕ
left first values = if first then separated values else later values

-- the next of them
pub left_more : (first : Bool) (value : List ℕ) (values : List (List ℕ))
    → left first (value ∷ values) ≡ comma_before first ++ (value ++ left false values)
left_more true value values = refl
left_more false value values = refl

-- the same by the number of values that were written
pub left_next : (number : ℕ) (value : List ℕ) (values : List (List ℕ))
    → left (number == 0) (value ∷ values) ≡ comma_before (number == 0) ++ (value ++ left (number + 1 == 0) values)
left_next number value values =
    let some : (number + 1 == 0) ≡ false = grind (arith, nat_tests) in
    rw some (left_more (number == 0) value values)

-- none are left
pub left_none : (first : Bool) → left first [] ≡ []
left_none true = refl
left_none false = refl

-- values after values
pub later-append : (front back : List (List ℕ)) → later (front ++ back) ≡ later front ++ later back
later-append [] back = refl
later-append (value ∷ front) back =
    ap (λ (text : List ℕ). 44 ∷ (value ++ text)) (later-append front back)
    ∙ ap (λ (text : List ℕ). 44 ∷ text) (sym (append_assoc value (later front) (later back)))

-- one value that follows others
pub later_one : (value : List ℕ) → later (value ∷ []) ≡ 44 ∷ value
later_one value = ap (λ (text : List ℕ). 44 ∷ text) (append-nil value)

-- values that follow others, without the first comma
pub after_comma : (each : List (List ℕ)) (values : List ℕ) (found : Option (Bor (List ℕ)))
    → MatchOption found ((rest : List ℕ) → values ≢ 44 ∷ rest) (λ rest. values ≡ 44 ∷ rest.now)
    → values ≡ later each → MatchOption found ([] ≡ separated each) (λ rest. rest.now ≡ separated each)
after_comma [] values None cases same = refl
after_comma [] values (Some rest) cases same =
    let none : 44 ∷ rest.now ≡ [] = sym cases ∙ same in absurd (cc)
after_comma (value ∷ each) values None cases same = absurd (cases (value ++ later each) same)
after_comma (value ∷ each) values (Some rest) cases same =
    let whole : 44 ∷ rest.now ≡ 44 ∷ (value ++ later each) = sym cases ∙ same in cc

next : {A : Type 0} (values : List A) (number : ℕ) (value : A) → number < length values
    → value ≡ get_or values number value → drop number values ≡ value ∷ drop (number + 1) values
next values number value within is =
    let rest : drop (number + 1) values ≡ drop (suc number) values = ap (λ n. drop n values) (add-one number) in
    drop-cons values number value within ∙ (ap (λ first. first ∷ drop (suc number) values) (sym is)
    ∙ ap (λ others. value ∷ others) (sym rest))

-- the next of values, each with its text
pub map_next : {A : Type 0} (text : A → List ℕ) (values : List A) (number : ℕ) (value : A) → number < length values
    → value ≡ get_or values number value → left (number == 0) (map text (drop number values))
    ≡ comma_before (number == 0) ++ (text value ++ left (number + 1 == 0) (map text (drop (number + 1) values)))
map_next text values number value within is =
    ap (λ others. left (number == 0) (map text others)) (next values number value within is)
    ∙ left_next number (text value) (map text (drop (number + 1) values))

-- the same, where the texts go by the number
pub count_next : {A : Type 0} (texts : ℕ → List A → List (List ℕ)) (text : ℕ → A → List ℕ)
    → ((number : ℕ) (value : A) (values : List A) → texts number (value ∷ values)
    ≡ text number value ∷ texts (number + 1) values)
    → (values : List A) (number : ℕ) (value : A) → number < length values → value ≡ get_or values number value
    → left (number == 0) (texts number (drop number values)) ≡ comma_before (number == 0)
    ++ (text number value ++ left (number + 1 == 0) (texts (number + 1) (drop (number + 1) values)))
count_next texts text step values number value within is =
    ap (λ others. left (number == 0) (texts number others)) (next values number value within is)
    ∙ (ap (λ (each : List (List ℕ)). left (number == 0) each) (step number value (drop (number + 1) values))
    ∙ left_next number (text number value) (texts (number + 1) (drop (number + 1) values)))
