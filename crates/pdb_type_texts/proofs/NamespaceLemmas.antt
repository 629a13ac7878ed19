-- What a number in hexadecimal is that a namespace is called by.
use Rattle.std.proofs.Common.{◌≡◌, ℕ, true, List, [], ◌∷◌, refl, sym}
use Rattle.std.specs.Prelude.{Result, Ok, Err}
use Rattle.std.specs.Char.{is_digit}
use Rattle.std.specs.List.{list_all}
use Rattle.std.specs.Result.{is_ok}
use Rattle.std.specs.Str.Parse.{AllDigits, ParsesUnsigned, without_leading_plus}
use Rattle.std.proofs.lemmas.Bool.{and_from, and_parts, ltb-true, lt-ltb, false_from_ne_true}
use Rattle.pdb_type_texts.specs.Namespaces.{is_hash}

-- where each byte is a digit, the test of all of them says so
digits-tested : (radix : ℕ) (bytes : List ℕ) → AllDigits radix bytes
    → list_all (λ digit. is_digit digit radix) bytes ≡ true
digits-tested radix [] digits = refl
digits-tested radix (byte ∷ bytes) digits = and_from _ _ (lt-ltb _ _ digits.0) (digits-tested radix bytes digits.1)

-- and where the test says so, each byte is a digit
tested-digits : (radix : ℕ) (bytes : List ℕ) → list_all (λ digit. is_digit digit radix) bytes ≡ true
    → AllDigits radix bytes
tested-digits radix [] tested = tt
tested-digits radix (byte ∷ bytes) tested = let both =
    and_parts _ _ tested in (ltb-true _ _ both.0, tested-digits radix bytes both.1)

-- a text is a hash where it can be read as a number of 32 bits
pub hash-parsed : {E : Type 0} (text : List ℕ) (parsed : Result ℕ E) → ParsesUnsigned 32 16 text parsed
    → is_ok parsed ≡ is_hash text
hash-parsed text (Ok number) parses =
    let hexadecimals = without_leading_plus text in
    sym (and_from _ _ (and_from _ _ (lt-ltb _ _ parses.0.0.0) (digits-tested 16 hexadecimals parses.0.0.1))
    (lt-ltb _ _ parses.0.1))
hash-parsed text (Err e) parses =
    let hexadecimals = without_leading_plus text in
    sym (false_from_ne_true (is_hash text) (λ yes.
    let outer = and_parts _ _ yes in
    let inner = and_parts _ _ outer.0 in
    parses ((ltb-true _ _ inner.0, tested-digits 16 hexadecimals inner.1), ltb-true _ _ outer.1)))
