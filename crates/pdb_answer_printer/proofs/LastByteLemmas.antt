-- The texts before and after the last such character of a text.
use Rattle.std.proofs.Common.{◌≡◌, ◌≢◌, ◌∙◌, ap, ℕ, ◌-◌, ◌<◌, ◌≤◌, List, [], length, drop, take, get_or, eqb}
use Rattle.std.proofs.Common.{not, true, false, Some, None, arith}
use Rattle.std.proofs.lemmas.Bool.Decides.{nat_tests}
use Rattle.std.proofs.lemmas.List.{length-drop, get_or-drop}
use Rattle.std.proofs.lemmas.List.Sums.{suffix_len_is}
use Rattle.std.proofs.lemmas.Str.Pattern.{NoCharPasses-char}
use Rattle.std.proofs.lemmas.Str.{len_utf8_ascii}
use Rattle.std.specs.Str.Pattern.{RFindsChar}
use Rattle.std.specs.List.{before_last, suffix_len}
use Rattle.pdb_answer_printer.specs.BaseNames.{after_last_byte}

-- where what follows the last such character begins
last_place : ℕ → List ℕ → ℕ
last_place c text = length text - suffix_len (λ (byte : ℕ). not (eqb byte c)) text

last_place_from : (c : ℕ) (text : List ℕ) (j : ℕ) → j ≤ length text
    → ((k : ℕ) → j ≤ k → k < length text → not (eqb (get_or text k 0) c) ≡ true)
    → (0 < j → not (eqb (get_or text (j - 1) 0) c) ≡ false)
    → j ≡ last_place c text
unfolding last_place
last_place_from c text j within others last =
    omega (arith, suffix_len_is (λ (byte : ℕ). not (eqb byte c)) text j 0 within others last)

-- a byte that isn't the character fails the test for it
other_byte : (byte c : ℕ) → byte ≢ c → not (eqb byte c) ≡ true
other_byte byte c other = grind (arith, nat_tests)

same_byte : (byte c : ℕ) → byte ≡ c → not (eqb byte c) ≡ false
same_byte byte c same = grind (arith, nat_tests)

-- where the text has the character last
last_place_at : (c : ℕ) (text : List ℕ) (i j : ℕ) → c < 128 → j ≤ length text → RFindsChar c text (Some (i, j))
    → j ≡ last_place c text
last_place_at c text i j small within found =
    let one = len_utf8_ascii c small in
    let ends = found.1.ends in
    let at : get_or text i 0 ≡ c = found.1.byte small in
    last_place_from c text j within
    (λ k from below. other_byte _ c (λ same.
    NoCharPasses-char c (drop j text) (k - j) found.0 small (omega (arith, length-drop j text))
    (get_or-drop j text (k - j) 0 ∙ ap (λ n. get_or text n 0) (omega arith) ∙ same)))
    (λ above. same_byte _ c (let before : j - 1 ≡ i = omega (arith, one, ends) in rw before at))

-- where it has none
last_place_none : (c : ℕ) (text : List ℕ) → c < 128 → RFindsChar c text None → 0 ≡ last_place c text
last_place_none c text small none =
    last_place_from c text 0 (omega arith)
    (λ k from below. other_byte _ c (NoCharPasses-char c text k none small below))
    (λ above. absurd (omega arith))

-- what follows the last such character
pub after_last_at : (c : ℕ) (text : List ℕ) (i j : ℕ) → c < 128 → j ≤ length text → RFindsChar c text (Some (i, j))
    → drop j text ≡ after_last_byte c text
unfolding last_place
after_last_at c text i j small within found = ap (λ n. drop n text) (last_place_at c text i j small within found)

pub after_last_none : (c : ℕ) (text : List ℕ) → c < 128 → RFindsChar c text None → text ≡ after_last_byte c text
unfolding last_place
after_last_none c text small none = ap (λ n. drop n text) (last_place_none c text small none)

-- what stands before it
pub before_last_at : (c : ℕ) (text : List ℕ) (i j : ℕ) → c < 128 → j ≤ length text → RFindsChar c text (Some (i, j))
    → take i text ≡ before_last (λ (byte : ℕ). eqb byte c) text
unfolding last_place
before_last_at c text i j small within found =
    let ends = found.1.ends in
    let before : i ≡ j - 1 = omega (arith, len_utf8_ascii c small, ends) in
    ap (λ n. take n text) before ∙ ap (λ n. take (n - 1) text) (last_place_at c text i j small within found)

pub before_last_none : (c : ℕ) (text : List ℕ) → c < 128 → RFindsChar c text None
    → [] ≡ before_last (λ (byte : ℕ). eqb byte c) text
unfolding last_place
before_last_none c text small none = ap (λ n. take (n - 1) text) (last_place_none c text small none)
