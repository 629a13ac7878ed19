-- The numbers of digits, as `from_str_radix` reads them.
use Rattle.std.proofs.Common.{◌≡◌, ◌≢◌, ◌∙◌, sym, ap, refl, ℕ, ◌<◌, ◌^◌, List, [], ◌∷◌, length, get_or, arith}
use Rattle.std.proofs.Common.{Some, None, Result, Ok, Err, Bool, true, false}
use Rattle.std.proofs.lemmas.Bool.Decides.{nat_tests}
use Rattle.std.proofs.lemmas.Str.Parse.{without_leading_plus_none}
use Rattle.std.specs.Prelude.{not, ◌&&◌, ◌==◌, nat_lt, if◌then◌else◌}
use Rattle.std.specs.Char.{digit_value}
use Rattle.std.specs.List.{list_all}
use Rattle.std.specs.Result.{result_ok}
use Rattle.std.specs.Str.Parse.{ParsesUnsigned, IsNumeral, AllDigits, digits_value}
use Rattle.pdb_answer_printer.specs.InputNumbers.{is_numeral, number_of}

both : (a b : Bool) → a ≡ true → b ≡ true → (a && b) ≡ true
both true b first second = second
both false b first second = absurd cc

parts : (a b : Bool) → (a && b) ≡ true → (a ≡ true) × (b ≡ true)
parts true b all = (refl, all)
parts false b all = absurd cc

is_below : (m n : ℕ) → m < n → nat_lt m n ≡ true
is_below m n less = grind (arith, nat_tests)

below_is : (m n : ℕ) → nat_lt m n ≡ true → m < n
below_is m n test = grind (arith, nat_tests)

not_empty : (n : ℕ) → 0 < n → not (n == 0) ≡ true
not_empty n more = grind (arith, nat_tests)

empty_not : (n : ℕ) → not (n == 0) ≡ true → 0 < n
empty_not n test = grind (arith, nat_tests)

-- each byte passes the test just where each is a digit
passing : (radix : ℕ) (word : List ℕ) → AllDigits radix word
    → list_all (λ digit. nat_lt (digit_value digit) radix) word ≡ true
passing radix [] digits = refl
passing radix (digit ∷ word) digits =
    both _ _ (is_below (digit_value digit) radix digits.0) (passing radix word digits.1)

passed : (radix : ℕ) (word : List ℕ) → list_all (λ digit. nat_lt (digit_value digit) radix) word ≡ true
    → AllDigits radix word
passed radix [] test = tt
passed radix (digit ∷ word) test =
    let each = parts (nat_lt (digit_value digit) radix)
    (list_all (λ byte. nat_lt (digit_value byte) radix) word) test in
    (below_is (digit_value digit) radix each.0, passed radix word each.1)

-- a numeral that fits 64 bits has a number, and nothing else has
number-numeral : (radix : ℕ) (word : List ℕ) → IsNumeral radix word → digits_value radix word < 2 ^ 64
    → number_of radix word ≡ Some (digits_value radix word)
number-numeral radix word numeral fits =
    let test = both _ _ (both _ _ (not_empty (length word) numeral.0) (passing radix word numeral.1))
    (is_below (digits_value radix word) (2 ^ 64) fits) in
    ap (λ (b : Bool). if b then Some (digits_value radix word) else None) test

none_unless : (test : Bool) (number : ℕ) → (test ≡ true → ⊥) → (if test then Some number else None) ≡ None
none_unless true number fails = absurd (fails refl)
none_unless false number fails = refl

number_none : (radix : ℕ) (word : List ℕ) → ¬ (IsNumeral radix word × (digits_value radix word < 2 ^ 64))
    → number_of radix word ≡ None
number_none radix word fails =
    none_unless (is_numeral radix word && nat_lt (digits_value radix word) (2 ^ 64)) (digits_value radix word)
    (λ test.
    let all = parts (is_numeral radix word) (nat_lt (digits_value radix word) (2 ^ 64)) test in
    let numeral = parts (not (length word == 0)) _ all.0 in
    fails ((empty_not (length word) numeral.0, passed radix word numeral.1), below_is _ (2 ^ 64) all.1))

-- a word that doesn't begin with a plus doesn't have one as its first byte
pub no_plus : (word : List ℕ) → ((rest : List ℕ) → word ≢ 43 ∷ rest) → get_or word 0 0 ≢ 43
no_plus [] lacks first = absurd cc
no_plus (byte ∷ word) lacks first = lacks word cc

-- what is read of a word without a plus
pub number_parsed : {E : Type 0} (radix : ℕ) (word : List ℕ) (read : Result ℕ E) → get_or word 0 0 ≢ 43
    → ParsesUnsigned 64 radix word read → result_ok read ≡ number_of radix word
number_parsed radix word (Ok number) plain parsed =
    let e = without_leading_plus_none word plain in
    let facts = rw e at parsed in
    ap (λ (n : ℕ). Some n) facts.1 ∙ sym (number-numeral radix word facts.0.0 facts.0.1)
number_parsed radix word (Err fault) plain parsed =
    let e = without_leading_plus_none word plain in
    let fails = rw e at parsed in
    sym (number_none radix word fails)
