-- What follows a text.
use Rattle.std.proofs.Common.{◌≡◌, ◌≢◌, ◌∙◌, sym, ap, refl, ℕ, List, [], ◌∷◌, ◌++◌, drop, Option, Some, None, arith}
use Rattle.std.proofs.Common.{Bor, option_map}
use Rattle.std.specs.Prelude.{MatchOption, if◌then◌else◌, ◌==◌}
use Rattle.std.specs.Str.Pattern.{FindsTextPrefix, StripsPrefix}
use Rattle.std.proofs.lemmas.Bool.Decides.{nat_tests}
use Rattle.pdb_answer_printer.specs.InputNumbers.{after_prefix}

-- two equal bytes pass the test, and others don't
same_byte : (byte : ℕ) (found : Option (List ℕ)) → (if byte == byte then found else None) ≡ found
same_byte byte found = grind (arith, nat_tests)

none_by_byte : (byte character : ℕ) (found : Option (List ℕ)) → (byte ≡ character → found ≡ None)
    → (if byte == character then found else None) ≡ None
none_by_byte byte character found none = grind (arith, nat_tests)

-- a text with another after it
pub after_prefix-append : (front rest : List ℕ) → after_prefix front (front ++ rest) ≡ Some rest
after_prefix-append [] rest = refl
after_prefix-append (character ∷ front) rest =
    same_byte character (after_prefix front (front ++ rest)) ∙ after_prefix-append front rest

-- nothing follows a text that isn't in front
pub after_prefix_none : (front text : List ℕ) → ((rest : List ℕ) → text ≢ front ++ rest)
    → after_prefix front text ≡ None
after_prefix_none [] text lacks = absurd (lacks text refl)
after_prefix_none (character ∷ front) [] lacks = refl
after_prefix_none (character ∷ front) (byte ∷ text) lacks =
    none_by_byte byte character (after_prefix front text)
    (λ same. after_prefix_none front text (λ rest e. lacks rest cc))

-- what `strip_prefix` leaves
pub after_prefix_stripped : (front text : List ℕ) (result : Option (Bor (List ℕ)))
    → MatchOption result (FindsTextPrefix front text None) (λ x. StripsPrefix (FindsTextPrefix front) text x.now)
    → option_map (λ rest. rest.now) result ≡ after_prefix front text
after_prefix_stripped front text None cases = sym (after_prefix_none front text cases)
after_prefix_stripped front text (Some rest) cases =
    let whole : text ≡ front ++ drop cases.0 text = cases.1.1 in
    let left : rest.now ≡ drop cases.0 text = cases.2 in
    let found = after_prefix-append front (drop cases.0 text) in
    let same : after_prefix front text ≡ after_prefix front (front ++ drop cases.0 text) =
    ap (after_prefix front) whole in
    ap (λ (bytes : List ℕ). Some bytes) left ∙ sym found ∙ sym same
