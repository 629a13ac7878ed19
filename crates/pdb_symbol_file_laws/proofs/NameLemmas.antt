-- Names on one line.
use Rattle.std.proofs.Common.{◌≡◌, ◌≢◌, ◌∙◌, ℕ, ◌+◌, ◌/◌, ◌%◌, ◌≤◌, ◌==◌, ◌||◌, Bool, true, false, cond, List, [], ◌∷◌}
use Rattle.std.proofs.Common.{◌++◌, codes, map}
use Rattle.std.proofs.Common.{refl, sym, ap, ltb, ne_eqb, subst, append-nil, arith, if◌then◌else◌, flat_map}
use Rattle.std.proofs.Common.{All, suc, eqb-true, IsUtf8}
use Rattle.std.proofs.lemmas.Str.{encodes-chars}
use Rattle.std.specs.Char.{encode_utf8}
use Rattle.std.specs.List.{AllByRecursion}
use Rattle.std.specs.Str.{chars, encode_utf8_all}
use Rattle.pdb_breakpad.specs.FunctionTexts.{line_text, name_character, name_line}
use Rattle.pdb_symbol_file_laws.specs.SymbolFileRecords.{on_one_line, without_break}
use Rattle.pdb_symbol_file_laws.proofs.LineLemmas.{HasNone, IsLine, line_end, none_in_both, with_word}

-- a byte of a longer character is no line break
high : (low n : ℕ) → 11 ≤ low → ((low + n) == 10) ≡ false
high low n above = ne_eqb (low + n) 10 (λ same. omega arith)

-- no byte of a character but a line break is one
encoded_none : (c : ℕ) → (c == 10) ≡ false → HasNone 10 (encode_utf8 c)
unfolding encode_utf8
encoded_none c other = by (ltb c 128) (ltb c 2048) (ltb c 65536)
  where
    by : (x y z : Bool) → HasNone 10 (cond x (c ∷ []) (cond y ((192 + c / 64) ∷ (128 + c % 64) ∷ [])
        (cond z ((224 + c / 4096) ∷ (128 + c / 64 % 64) ∷ (128 + c % 64) ∷ [])
        ((240 + c / 262144) ∷ (128 + c / 4096 % 64) ∷ (128 + c / 64 % 64) ∷ (128 + c % 64) ∷ []))))
    by true y z = (other, tt)
    by false true z = (high 192 _ (omega arith), (high 128 _ (omega arith), tt))
    by false false true = (high 224 _ (omega arith), (high 128 _ (omega arith), (high 128 _ (omega arith), tt)))
    by false false false = (
      high 240 _ (omega arith),
      (high 128 _ (omega arith), (high 128 _ (omega arith), (high 128 _ (omega arith), tt))),
    )

-- a character of a name is written as one without line breaks
character_is : (c : ℕ) → name_character c ≡ encode_utf8 (without_break c)
unfolding encode_utf8
character_is c = by ((c == 10) || (c == 13))
  where
    by : (t : Bool) → (if t then codes " " else encode_utf8 c) ≡ encode_utf8 (if t then 32 else c)
    by true = refl
    by false = refl

-- so are all characters of a name
characters_are : (cs : List ℕ) → flat_map name_character cs ≡ encode_utf8_all (map without_break cs)
characters_are [] = refl
characters_are (c ∷ cs) =
    ap (λ bytes. bytes ++ flat_map name_character cs) (character_is c)
    ∙ ap (λ bytes. encode_utf8 (without_break c) ++ bytes) (characters_are cs)

-- a character without line breaks has none
without_none : (c : ℕ) → (without_break c == 10) ≡ false
without_none c = by (c == 10) (c == 13) refl
  where
    by : (t u : Bool) → (c == 10) ≡ t → ((if t || u then 32 else c) == 10) ≡ false
    by true u e = refl
    by false true e = refl
    by false false e = e

-- characters without line breaks have none
characters_none : (cs : List ℕ) → HasNone 10 (encode_utf8_all (map without_break cs))
characters_none [] = tt
characters_none (c ∷ cs) =
    none_in_both 10 (encode_utf8 (without_break c)) (encode_utf8_all (map without_break cs))
    (encoded_none (without_break c) (without_none c)) (characters_none cs)

-- a text as a part of a line has no line break
pub line_text_none : (text : List ℕ) → HasNone 10 (line_text text)
line_text_none text = subst (HasNone 10) (sym (characters_are (chars text))) (characters_none (chars text))

-- the end of a line with a name is the name on one line
pub name_is_line : (name : List ℕ) → IsLine (name_line name) (on_one_line name)
unfolding name_line on_one_line
name_is_line name =
    subst (λ line. IsLine (name_line name) line) (append-nil (on_one_line name))
    (subst (λ text. IsLine (text ++ codes "\n") (on_one_line name ++ [])) (sym (characters_are (chars name)))
    (with_word (on_one_line name) (characters_none (chars name)) line_end))

-- bytes of a name without line breaks
abbrev IsPlain : List ℕ → Type 0
IsPlain bytes = AllByRecursion (λ byte. (byte ≢ 10) × (byte ≢ 13)) bytes

-- a part of such bytes is such bytes
plain_parts : (xs ys : List ℕ) → IsPlain (xs ++ ys) → IsPlain xs × IsPlain ys
plain_parts [] ys plain = (tt, plain)
plain_parts (x ∷ xs) ys plain =
    let parts = plain_parts xs ys plain.1 in ((plain.0, parts.0), parts.1)

-- a character whose bytes are such stays as it is
stays : (c : ℕ) → IsPlain (encode_utf8 c) → without_break c ≡ c
unfolding encode_utf8
stays c plain = by (c == 10) (c == 13) refl refl
  where
    by : (t u : Bool) → (c == 10) ≡ t → (c == 13) ≡ u → (if t || u then 32 else c) ≡ c
    by true u e f = absurd ((subst (λ x. IsPlain (encode_utf8 x)) (eqb-true c 10 e) plain).0.0 refl)
    by false true e f = absurd ((subst (λ x. IsPlain (encode_utf8 x)) (eqb-true c 13 f) plain).0.1 refl)
    by false false e f = refl

-- so do all characters
all_stay : (cs : List ℕ) → IsPlain (encode_utf8_all cs) → map without_break cs ≡ cs
all_stay [] plain = refl
all_stay (c ∷ cs) plain =
    let parts = plain_parts (encode_utf8 c) (encode_utf8_all cs) plain in
    ap (λ x. x ∷ map without_break cs) (stays c parts.0) ∙ ap (λ xs. c ∷ xs) (all_stay cs parts.1)

-- bytes none of which is either of the two line breaks
both_none : (name : List ℕ) → All (λ byte. byte ≢ 10) name → All (λ byte. byte ≢ 13) name → IsPlain name
both_none [] some others = tt
both_none (b ∷ name) some others = (
  (some 0 b (omega arith), others 0 b (omega arith)),
  both_none name (λ k d below. some (suc k) d (omega (arith, below)))
      (λ k d below. others (suc k) d (omega (arith, below))),
)

-- a name without line breaks is on one line as it is
pub name_stays : (name : List ℕ) → IsUtf8 name → All (λ byte. byte ≢ 10) name → All (λ byte. byte ≢ 13) name
    → on_one_line name ≡ name
unfolding on_one_line
name_stays name text some others =
    let spelled : encode_utf8_all (chars name) ≡ name = encodes-chars name text in
    ap encode_utf8_all (all_stay (chars name) (subst IsPlain (sym spelled) (both_none name some others))) ∙ spelled

-- what names say
pub ruleset named = (name_stays)
