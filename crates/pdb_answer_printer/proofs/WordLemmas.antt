-- The first word of a text, as `split_whitespace` gives it.
use Rattle.std.proofs.Common.{◌≡◌, ◌∙◌, sym, ap, refl, ℕ, ◌<◌, List, [], ◌∷◌, ◌++◌, length, append_assoc, arith}
use Rattle.std.proofs.Common.{Bool, true, false, cond}
use Rattle.std.proofs.lemmas.Str.{chars-encodes, cons_from_encodes, encodes_same, length-le-encodes}
use Rattle.std.specs.Prelude.{not}
use Rattle.std.specs.Char.{is_whitespace, is_not_whitespace, encode_utf8}
use Rattle.std.specs.Str.{IsUtf8, NonePass, NoCharPasses, EmptyOrStartsWithPassing}
use Rattle.std.specs.Str.{chars, encode_utf8_all, skip_leading_whitespace}
use Rattle.pdb_answer_printer.specs.InputLineParser.{word_characters, first_word}

-- characters whose bytes begin with those of others begin with these
without_front : (front whole : List ℕ) (rest : List ℕ) → encode_utf8_all whole ≡ encode_utf8_all front ++ rest
    → (left : List ℕ) × (whole ≡ front ++ left) × (encode_utf8_all left ≡ rest)
without_front [] whole rest e = (whole, refl, e)
without_front (character ∷ front) whole rest e =
    let first = cons_from_encodes whole (encode_utf8_all front ++ rest) character
    (e ∙ append_assoc (encode_utf8 character) (encode_utf8_all front) rest) in
    let others = without_front front first.0 rest first.2 in
    (others.0, first.1 ∙ ap (λ (cs : List ℕ). character ∷ cs) others.1, others.2)

whitespace : (test : Bool) → not test ≡ false → test ≡ true
whitespace true e = refl
whitespace false e = absurd cc

skip_one : (test : Bool) (one other : List ℕ) → test ≡ true → cond test one other ≡ one
skip_one true one other e = refl
skip_one false one other e = absurd cc

keep_one : (test : Bool) (one other : List ℕ) → test ≡ false → cond test one other ≡ other
keep_one false one other e = refl
keep_one true one other e = absurd cc

-- white space in front is passed over
skips_gap : (gap rest : List ℕ) → NonePass is_not_whitespace gap
    → skip_leading_whitespace (gap ++ rest) ≡ skip_leading_whitespace rest
skips_gap [] rest none = refl
skips_gap (character ∷ gap) rest none =
    skip_one (is_whitespace character) _ _ (whitespace (is_whitespace character) none.0) ∙ skips_gap gap rest none.1

skips_all : (gap : List ℕ) → NonePass is_not_whitespace gap → skip_leading_whitespace gap ≡ []
skips_all [] none = refl
skips_all (character ∷ gap) none =
    skip_one (is_whitespace character) _ _ (whitespace (is_whitespace character) none.0) ∙ skips_all gap none.1

-- a word is not
keeps_word : (word rest : List ℕ) → NonePass is_whitespace word → 0 < length word
    → skip_leading_whitespace (word ++ rest) ≡ word ++ rest
keeps_word [] rest none some = absurd (omega arith)
keeps_word (character ∷ word) rest none some = keep_one (is_whitespace character) _ _ none.0

-- a word ends where white space begins
ends_word : (word rest : List ℕ) → NonePass is_whitespace word → word_characters rest ≡ []
    → word_characters (word ++ rest) ≡ word
ends_word [] rest none stops = stops
ends_word (character ∷ word) rest none stops =
    keep_one (is_whitespace character) _ _ none.0
    ∙ ap (λ (cs : List ℕ). character ∷ cs) (ends_word word rest none.1 stops)

stops_at : (left rest more : List ℕ) → encode_utf8_all left ≡ rest
    → EmptyOrStartsWithPassing is_whitespace rest more → word_characters left ≡ []
stops_at [] rest more e starts = refl
stops_at (character ∷ left) rest more e starts =
    let some : 0 < length rest = omega (arith, length-le-encodes (character ∷ left), ap (length {A = ℕ}) e) in
    let space = starts some in
    let first = cons_from_encodes (character ∷ left) more space.0 (e ∙ space.2) in
    let same : character ≡ space.0 = cc (first.1) in
    skip_one (is_whitespace character) _ _ (ap is_whitespace same ∙ space.1)

some_characters : (word : List ℕ) (bytes : List ℕ) → encode_utf8_all word ≡ bytes → 0 < length bytes → 0 < length word
some_characters [] bytes e some = absurd (omega (arith, ap (length {A = ℕ}) e))
some_characters (character ∷ word) bytes e some = omega arith

-- the word after white space
pub word_after_gap : (text gap word rest more : List ℕ) → IsUtf8 text → text ≡ gap ++ (word ++ rest) → 0 < length word
    → NoCharPasses is_not_whitespace gap → NoCharPasses is_whitespace word
    → EmptyOrStartsWithPassing is_whitespace rest more → word ≡ first_word text
word_after_gap text gap word rest more utf8 whole some spaces letters starts =
    let all = utf8.0 in
    let known : chars text ≡ all = ap chars (sym utf8.1.1) ∙ chars-encodes all utf8.1.0 in
    let after_gap = without_front spaces.0 all (word ++ rest)
    (utf8.1.1 ∙ whole ∙ ap (λ (front : List ℕ). front ++ (word ++ rest)) (sym spaces.1)) in
    let left = without_front letters.0 after_gap.0 rest
    (after_gap.2 ∙ ap (λ (front : List ℕ). front ++ rest) (sym letters.1)) in
    let parts : chars text ≡ spaces.0 ++ (letters.0 ++ left.0) =
    known ∙ after_gap.1 ∙ ap (λ (cs : List ℕ). spaces.0 ++ cs) left.1 in
    let skipped : skip_leading_whitespace (chars text) ≡ letters.0 ++ left.0 =
    ap skip_leading_whitespace parts ∙ skips_gap spaces.0 (letters.0 ++ left.0) spaces.2
    ∙ keeps_word letters.0 left.0 letters.2 (some_characters letters.0 word letters.1 some) in
    let found : word_characters (skip_leading_whitespace (chars text)) ≡ letters.0 =
    ap word_characters skipped
    ∙ ends_word letters.0 left.0 letters.2 (stops_at left.0 rest more left.2 starts) in
    sym (ap encode_utf8_all found ∙ letters.1)

-- white space alone has no word
pub no_word : (text : List ℕ) → IsUtf8 text → NoCharPasses is_not_whitespace text → [] ≡ first_word text
no_word text utf8 spaces =
    let known : chars text ≡ utf8.0 = ap chars (sym utf8.1.1) ∙ chars-encodes utf8.0 utf8.1.0 in
    let same : spaces.0 ≡ utf8.0 = encodes_same spaces.0 utf8.0 (spaces.1 ∙ sym utf8.1.1) in
    let skipped : skip_leading_whitespace (chars text) ≡ [] =
    ap skip_leading_whitespace (known ∙ sym same) ∙ skips_all spaces.0 spaces.2 in
    sym (ap (λ (cs : List ℕ). encode_utf8_all (word_characters cs)) skipped)
