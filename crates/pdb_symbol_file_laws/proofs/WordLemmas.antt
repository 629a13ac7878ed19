-- The words of a line, and the numbers among them.
use Rattle.std.proofs.Common.{◌≡◌, ◌∙◌, ℕ, ◌==◌, ◌<◌, ◌≤◌, ◌^◌, Bool, true, false, List, [], ◌∷◌, ◌++◌, refl, sym, ap}
use Rattle.std.proofs.Common.{subst, ne_eqb, lt-ltb, lt_irrefl, lt_of_lt_of_le, ◌&&◌, arith, if◌then◌else◌}
use Rattle.std.proofs.Common.{true≢false, bytes_eq, decimal}
use Rattle.std.proofs.lemmas.Fmt.{digits_is_IsNumeral}
use Rattle.std.proofs.lemmas.Slice.Eq.{bytes_eq-Decides}
use Rattle.std.specs.Char.{digit_value}
use Rattle.std.specs.Fmt.{digits}
use Rattle.std.specs.Str.Parse.{AllDigits, IsNumeral, digits_value}
use Rattle.pdb_symbol_file_laws.specs.SymbolTextReader.{SymbolLine, OtherLine, are_digits, begins_with, first_word}
use Rattle.pdb_symbol_file_laws.specs.SymbolTextReader.{is_number, number_and_more, number_at_end, rest_of}
use Rattle.pdb_symbol_file_laws.proofs.LineLemmas.{HasNone}

-- the first word of a line is what stands before a space
pub first_is : (word rest : List ℕ) → HasNone 32 word → first_word (word ++ (32 ∷ rest)) ≡ word
first_is [] rest none = refl
first_is (b ∷ word) rest none =
    ap (λ t. if t then [] else b ∷ first_word (word ++ (32 ∷ rest))) none.0
    ∙ ap (λ w. b ∷ w) (first_is word rest none.1)

-- the rest of a line is what stands after the space
pub rest_is : (word rest : List ℕ) → HasNone 32 word → rest_of (word ++ (32 ∷ rest)) ≡ rest
rest_is [] rest none = refl
rest_is (b ∷ word) rest none =
    ap (λ t. if t then word ++ (32 ∷ rest) else rest_of (word ++ (32 ∷ rest))) none.0 ∙ rest_is word rest none.1

-- a digit is no byte that is none
not_digit : (c byte base : ℕ) → digit_value c < base → base ≤ digit_value byte → (c == byte) ≡ false
not_digit c byte base digit none =
    ne_eqb c byte
    (λ same. lt_irrefl (digit_value byte) (lt_of_lt_of_le (subst (λ x. digit_value x < base) same digit) none))

-- among digits is no byte that is none
pub none_in_digits : (byte base : ℕ) (ds : List ℕ) → AllDigits base ds → base ≤ digit_value byte → HasNone byte ds
none_in_digits byte base [] all none = tt
none_in_digits byte base (c ∷ ds) all none =
    (not_digit c byte base all.0 none, none_in_digits byte base ds all.1 none)

-- digits are found to be digits
pub digits_are : (base : ℕ) (ds : List ℕ) → AllDigits base ds → are_digits base ds ≡ true
digits_are base [] all = refl
digits_are base (c ∷ ds) all =
    ap (λ t. t && are_digits base ds) (lt-ltb (digit_value c) base all.0) ∙ digits_are base ds all.1

-- digits, one or more, are found to be a number
number_is : (base : ℕ) (ds : List ℕ) → IsNumeral base ds → is_number base ds ≡ true
number_is base [] numeral = absurd (omega (arith, numeral.0))
number_is base (c ∷ ds) numeral = digits_are base (c ∷ ds) numeral.1

-- digits are no word in which some byte is none
pub no_word : (base : ℕ) (ds word : List ℕ) → AllDigits base ds → are_digits base word ≡ false
    → bytes_eq ds word ≡ false
no_word base ds word all other = by (bytes_eq ds word) refl
  where
    by : (t : Bool) → bytes_eq ds word ≡ t → t ≡ false
    by false e = refl
    by true e =
        let same : ds ≡ word = (bytes_eq-Decides ds word).0 e in
        absurd (true≢false (sym (digits_are base ds all) ∙ ap (are_digits base) same ∙ other))

-- a line that begins with digits doesn't begin with a word that has none
pub no_beginning : (base : ℕ) (ds rest word : List ℕ) → AllDigits base ds → base ≤ 16 → are_digits base word ≡ false
    → begins_with (ds ++ (32 ∷ rest)) word ≡ false
no_beginning base ds rest word all small other =
    ap (λ w. bytes_eq w word) (first_is ds rest (none_in_digits 32 base ds all (omega (arith, small))))
    ∙ no_word base ds word all other

-- digits with a space and more after them are read as their number and the rest
goes_on : (base n : ℕ) (ds rest : List ℕ) (says : ℕ → List ℕ → SymbolLine) → base ≤ 16 → IsNumeral base ds
    → digits_value base ds ≡ n → number_and_more base (ds ++ (32 ∷ rest)) says ≡ says n rest
unfolding number_and_more
goes_on base n ds rest says small numeral value =
    let none : HasNone 32 ds = none_in_digits 32 base ds numeral.1 (omega (arith, small)) in
    let text : List ℕ = ds ++ (32 ∷ rest) in
    ap (λ w. if is_number base w then says (digits_value base w) (rest_of text) else OtherLine) (first_is ds rest none)
    ∙ ap (λ r. if is_number base ds then says (digits_value base ds) r else OtherLine) (rest_is ds rest none)
    ∙ ap (λ t. if t then says (digits_value base ds) rest else OtherLine) (number_is base ds numeral)
    ∙ ap (λ m. says m rest) value

-- digits at the end are read as their number
ends : (base n : ℕ) (ds : List ℕ) (says : ℕ → SymbolLine) → IsNumeral base ds → digits_value base ds ≡ n
    → number_at_end base ds says ≡ says n
unfolding number_at_end
ends base n ds says numeral value =
    ap (λ t. if t then says (digits_value base ds) else OtherLine) (number_is base ds numeral) ∙ ap says value

-- a hexadecimal number of 64 bits has digits, which are read as it
pub hexadecimal_is : (n : ℕ) → n < 2 ^ 64
    → IsNumeral 16 (digits 16 false n) × (digits_value 16 (digits 16 false n) ≡ n)
hexadecimal_is n small = digits_is_IsNumeral 16 false (omega arith) (omega arith) n (omega arith)

-- so has a decimal one
pub decimal_is : (n : ℕ) → n < 2 ^ 64 → IsNumeral 10 (decimal n) × (digits_value 10 (decimal n) ≡ n)
decimal_is n small = digits_is_IsNumeral 10 false (omega arith) (omega arith) n (omega arith)

-- a hexadecimal number is read, and more after it
pub hexadecimal_goes_on : (n : ℕ) (rest : List ℕ) (says : ℕ → List ℕ → SymbolLine) → n < 2 ^ 64
    → number_and_more 16 (digits 16 false n ++ (32 ∷ rest)) says ≡ says n rest
hexadecimal_goes_on n rest says small =
    let is = hexadecimal_is n small in goes_on 16 n (digits 16 false n) rest says (omega arith) is.0 is.1

-- a decimal number is read, and more after it
pub decimal_goes_on : (n : ℕ) (rest : List ℕ) (says : ℕ → List ℕ → SymbolLine) → n < 2 ^ 64
    → number_and_more 10 (decimal n ++ (32 ∷ rest)) says ≡ says n rest
decimal_goes_on n rest says small =
    let is = decimal_is n small in goes_on 10 n (decimal n) rest says (omega arith) is.0 is.1

-- a hexadecimal number is read at the end of a line
pub hexadecimal_ends : (n : ℕ) (says : ℕ → SymbolLine) → n < 2 ^ 64
    → number_at_end 16 (digits 16 false n) says ≡ says n
hexadecimal_ends n says small = let is = hexadecimal_is n small in ends 16 n (digits 16 false n) says is.0 is.1

-- a decimal number is read at the end of a line
pub decimal_ends : (n : ℕ) (says : ℕ → SymbolLine) → n < 2 ^ 64 → number_at_end 10 (decimal n) says ≡ says n
decimal_ends n says small = let is = decimal_is n small in ends 10 n (decimal n) says is.0 is.1

-- a hexadecimal number stands on one line
pub hexadecimal_has_none : (n : ℕ) → n < 2 ^ 64 → HasNone 10 (digits 16 false n)
hexadecimal_has_none n small =
    none_in_digits 10 16 (digits 16 false n) (hexadecimal_is n small).0.1 (omega arith)

-- so does a decimal one
pub decimal_has_none : (n : ℕ) → n < 2 ^ 64 → HasNone 10 (decimal n)
decimal_has_none n small = none_in_digits 10 10 (decimal n) (decimal_is n small).0.1 (omega arith)
