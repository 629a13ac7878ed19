-- The debug ids of texts with a slash and without.
use Rattle.std.proofs.Common.{◌≡◌, ◌∙◌, sym, ap, refl, ℕ, zero, suc, ◌+◌, ◌<◌, ◌≤◌, List, [], ◌∷◌, length, get_or, take, drop, arith}
use Rattle.std.proofs.Common.{Option, Some, None, Bool, false, get_or-drop}
use Rattle.std.proofs.lemmas.Bool.Decides.{nat_tests}
use Rattle.std.specs.Prelude.{◌==◌, cond, nat_lt}
use Rattle.std.specs.Char.{digit_value}
use Rattle.std.specs.List.{after_first, before_first, position, position_or_len}
use Rattle.std.specs.Str.{IsCharBoundary}
use Rattle.std.specs.Str.Parse.{AllDigits}
use Rattle.pdb_identity.specs.DebugIds.{debug_id_of, id_by_slash, id_of_parts}
use Rattle.pdb_identity.specs.declared.debug_id.DebugId.{DebugId}
use Rattle.pdb_identity.proofs.AgeLemmas.{age_none, is_below}

abbrev is_slash : ℕ → Bool
is_slash byte = byte == 47

not_below : (m n : ℕ) → m ≡ n → nat_lt m n ≡ false
not_below m n same = grind (arith, nat_tests)

-- the parts around the first slash
pub with_slash : (text guid age : List ℕ) → guid ≡ before_first is_slash text → age ≡ after_first is_slash text
    → position_or_len is_slash text < length text → id_of_parts 10 guid age ≡ debug_id_of text
unfolding debug_id_of
with_slash text guid age front back less =
    let at = position_or_len is_slash text in
    let first : position is_slash text ≡ Some at =
    ap (λ (b : Bool). cond b (Some at) None) (is_below at (length text) less) in
    ap (λ (g : List ℕ). id_of_parts 10 g age) front ∙ ap (λ (a : List ℕ). id_of_parts 10 (take at text) a) back
    ∙ sym (ap (λ (slash : Option ℕ). id_by_slash slash text) first)

-- a text without a slash
pub without_slash : (text : List ℕ) (id : Option DebugId) → id ≡ id_by_slash None text
    → position_or_len is_slash text ≡ length text → id ≡ debug_id_of text
unfolding debug_id_of
without_slash text id is all =
    let at = position_or_len is_slash text in
    let none : position is_slash text ≡ None =
    ap (λ (b : Bool). cond b (Some at) None) (not_below at (length text) all) in
    is ∙ sym (ap (λ (slash : Option ℕ). id_by_slash slash text) none)

-- a hexadecimal digit is a byte below 128
low : (byte : ℕ) → digit_value byte < 16 → byte < 128
low byte digit = grind (arith, nat_tests)

first_digit : (word : List ℕ) → 0 < length word → AllDigits 16 word → get_or word 0 0 < 128
first_digit [] more digits = absurd (omega arith)
first_digit (digit ∷ word) more digits = low digit digits.0

more_left : (text : List ℕ) (n : ℕ) → 0 < length (drop n text) → n ≤ length text
more_left [] zero more = absurd (omega arith)
more_left [] (suc n) more = absurd (omega arith)
more_left (byte ∷ text) zero more = omega arith
more_left (byte ∷ text) (suc n) more = let rest = more_left text n more in omega arith

-- a text whose first 32 bytes are no characters has no age after them
pub cut_character : (text : List ℕ) → (IsCharBoundary text 32 → ⊥) → id_by_slash None text ≡ None
cut_character text cut =
    let none = age_none 16 (drop 32 text) (λ age.
    let digit : get_or text (32 + 0) 0 < 128 =
    rw (get_or-drop 32 text 0 0) at (first_digit (drop 32 text) age.0.0 age.0.1) in
    cut (more_left text 32 age.0.0, λ within high. absurd (omega (arith, digit, high)))) in
    rw none refl

-- what is `Some` of nothing is `None`
pub no_guid : {X : Type 0} (read : Option X) → ((one : X) → read ≡ Some one → ⊥) → None ≡ read
no_guid None none = refl
no_guid (Some one) none = absurd (none one refl)
