-- Lines of an input.
use Rattle.std.proofs.Common.{◌≡◌, ap, refl, ℕ, Bool, true, false, List, [], ◌∷◌}
use Rattle.std.specs.Prelude.{◌==◌}
use Rattle.std.specs.Str.{IsUtf8, is_utf8}
use Rattle.std.proofs.lemmas.Str.{IsUtf8-from_is_utf8, is_utf8-from_IsUtf8}
use Rattle.std.specs.Io.BufRead.{take_through, drop_through}
use Rattle.pdb_symbolizer_lib.specs.InputLines.{in_front_of, split_lines, text_of_line}

-- what is text is the text of its line
pub text_is_its_own : (line : List ℕ) → IsUtf8 line → line ≡ text_of_line line
text_is_its_own line is = rw (is_utf8-from_IsUtf8 line is) refl

-- in place of what is none there is a question mark
pub mark_for_no_text : (line : List ℕ) → ¬ (IsUtf8 line) → 63 ∷ [] ≡ text_of_line line
mark_for_no_text line other = by_test (is_utf8 line) refl where
  by_test : (test : Bool) → is_utf8 line ≡ test → 63 ∷ [] ≡ text_of_line line
  by_test true is = absurd (other (IsUtf8-from_is_utf8 line is))
  by_test false is = rw is refl

-- the first line is what goes through the first line break, and the other lines are those of the bytes after it
pub first_of_lines : (byte : ℕ) (bytes : List ℕ) → split_lines (byte ∷ bytes)
    ≡ take_through 10 (byte ∷ bytes) ∷ split_lines (drop_through 10 (byte ∷ bytes))
first_of_lines byte [] = by_test (byte == 10) refl where
  by_test : (test : Bool) → (byte == 10) ≡ test → split_lines (byte ∷ [])
      ≡ take_through 10 (byte ∷ []) ∷ split_lines (drop_through 10 (byte ∷ []))
  by_test true is = rw is refl
  by_test false is = rw is refl
first_of_lines byte (next ∷ rest) = by_test (byte == 10) refl (first_of_lines next rest) where
  by_test : (test : Bool) → (byte == 10) ≡ test → split_lines (next ∷ rest)
      ≡ take_through 10 (next ∷ rest) ∷ split_lines (drop_through 10 (next ∷ rest))
      → split_lines (byte ∷ next ∷ rest)
      ≡ take_through 10 (byte ∷ next ∷ rest) ∷ split_lines (drop_through 10 (byte ∷ next ∷ rest))
  by_test true is further = rw is refl
  by_test false is further = rw is (ap (in_front_of byte) further)
