-- A text by its lines.
use Rattle.std.proofs.Common.{◌≡◌, ◌∙◌, ℕ, ◌==◌, Bool, true, false, not, ◌&&◌, List, [], ◌∷◌, ◌++◌, codes, map, refl}
use Rattle.std.proofs.Common.{sym}
use Rattle.std.proofs.Common.{ap, append_assoc, append-nil, if◌then◌else◌}
use Rattle.pdb_symbol_file_laws.specs.SymbolTextReader.{SymbolLine, in_front_of, lines, read_line, read_text}

-- no byte of these is this one
abbrev pub HasNone : ℕ → List ℕ → Type 0
HasNone byte [] = Unit {0}
HasNone byte (b ∷ bytes) = ((b == byte) ≡ false) × HasNone byte bytes

-- the same as a test
abbrev pub has_none : ℕ → List ℕ → Bool
has_none byte [] = true
has_none byte (b ∷ bytes) = not (b == byte) && has_none byte bytes

-- the parts of a test of two
both : (t u : Bool) → not t && u ≡ true → (t ≡ false) × (u ≡ true)
both false true e = (refl, refl)
both false false e = (refl, e)
both true u e = absurd (cc e)

-- what passes the test has none
pub tested : (byte : ℕ) (bytes : List ℕ) → has_none byte bytes ≡ true → HasNone byte bytes
tested byte [] e = tt
tested byte (b ∷ bytes) e =
    let parts = both (b == byte) (has_none byte bytes) e in (parts.0, tested byte bytes parts.1)

-- bytes that two lists have none of
pub none_in_both : (byte : ℕ) (xs ys : List ℕ) → HasNone byte xs → HasNone byte ys → HasNone byte (xs ++ ys)
none_in_both byte [] ys left right = right
none_in_both byte (x ∷ xs) ys left right = (left.0, none_in_both byte xs ys left.1 right)

-- a text is one line with its line break
pub record IsLine (text line : List ℕ) : Type 0 where
  pub is : (rest : List ℕ) → lines (text ++ rest) ≡ line ∷ lines rest

-- a line break is the end of a line
pub line_end : IsLine (codes "\n") []
line_end = record { is = λ rest. refl }

-- a word in front of what ends a line
in_front : (word text line rest : List ℕ) → HasNone 10 word → lines (text ++ rest) ≡ line ∷ lines rest
    → lines ((word ++ text) ++ rest) ≡ (word ++ line) ∷ lines rest
in_front [] text line rest none is = is
in_front (b ∷ word) text line rest none is =
    ap (λ t. if t then [] ∷ lines ((word ++ text) ++ rest) else in_front_of b (lines ((word ++ text) ++ rest))) none.0
    ∙ ap (in_front_of b) (in_front word text line rest none.1 is)

-- a word without line breaks in front of what ends a line
pub with_word : (word : List ℕ) {text line : List ℕ} → HasNone 10 word → IsLine text line
    → IsLine (word ++ text) (word ++ line)
with_word word {text} {line} none ends = record { is = λ rest. in_front word text line rest none (ends.is rest) }

-- what a text says in front of whatever follows it
pub record IsReadAs (text : List ℕ) (said : List SymbolLine) : Type 0 where
  pub is : (rest : List ℕ) → read_text (text ++ rest) ≡ said ++ read_text rest

-- no text says nothing
pub none_read : IsReadAs [] []
none_read = record { is = λ rest. refl }

-- one line says what the line says
pub line_reads : {text line : List ℕ} {said : SymbolLine} → IsLine text line → read_line line ≡ said
    → IsReadAs text (said ∷ [])
unfolding read_text
line_reads {text} {line} {said} one says = record {
  is = λ rest. ap (map read_line) (one.is rest) ∙ ap (λ s. s ∷ map read_line (lines rest)) says;
}

-- two texts say what each of them does
pub both_read : {a b : List ℕ} {x y : List SymbolLine} → IsReadAs a x → IsReadAs b y → IsReadAs (a ++ b) (x ++ y)
both_read {a} {b} {x} {y} first second = record {
  is = λ rest. ap read_text (append_assoc a b rest) ∙ first.is (b ++ rest) ∙ ap (λ s. x ++ s) (second.is rest)
      ∙ sym (append_assoc x y (read_text rest));
}

-- what a whole text says
pub whole_read : {text : List ℕ} {said : List SymbolLine} → IsReadAs text said → read_text text ≡ said
unfolding read_text
whole_read {text} {said} reads =
    ap read_text (sym (append-nil text)) ∙ reads.is [] ∙ append-nil said
