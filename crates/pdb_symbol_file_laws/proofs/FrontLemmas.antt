-- What a reader finds in front of the records of names and functions.
use Rattle.std.proofs.Common.{◌≡◌, ◌≢◌, ◌∙◌, ℕ, ◌==◌, Bool, true, false, List, [], ◌∷◌, ◌++◌, codes, refl, sym}
use Rattle.std.proofs.Common.{ap, subst, ne_eqb, map, All, append_assoc, append-nil, inl, inr, ◌⊎◌, if◌then◌else◌}
use Rattle.std.specs.List.{AllByRecursion}
use Rattle.pdb_breakpad.specs.ModuleRecord.{IsModuleLine, with_breaks}
use Rattle.pdb_symbol_file_laws.specs.SymbolTextReader.{OtherLine, in_front_of, lines, number_and_more}
use Rattle.pdb_symbol_file_laws.specs.SymbolTextReader.{read_line, read_text}
use Rattle.pdb_symbol_file_laws.proofs.LineLemmas.{HasNone, IsLine, IsReadAs, both_read, line_end, line_reads}
use Rattle.pdb_symbol_file_laws.proofs.LineLemmas.{none_read}
use Rattle.pdb_symbol_file_laws.proofs.LineLemmas.{tested, with_word}
use Rattle.pdb_symbol_file_laws.proofs.TextLemmas.{one_by_one}

-- bytes none of which is a line break
none_of : (bytes : List ℕ) → AllByRecursion (λ byte. byte ≢ 10) bytes → HasNone 10 bytes
none_of [] all = tt
none_of (b ∷ bytes) all = (ne_eqb b 10 all.0, none_of bytes all.1)

-- a text without line breaks and a line break are a line
text_line : (word text : List ℕ) → HasNone 10 word → AllByRecursion (λ byte. byte ≢ 10) text
    → IsLine ((word ++ text) ++ codes "\n") (word ++ text)
text_line word text plain all =
    subst (λ whole. IsLine whole (word ++ text)) (sym (append_assoc word text (codes "\n")))
    (with_word word plain
    (subst (λ line. IsLine (text ++ codes "\n") line) (append-nil text) (with_word text (none_of text all) line_end)))

-- a line that says which module a file is of is none of the other records
module_line_reads : (line : List ℕ) → IsModuleLine line → IsReadAs (line ++ codes "\n") (OtherLine ∷ [])
unfolding read_line number_and_more
module_line_reads line is = by is.2
  where
    all : AllByRecursion (λ byte. byte ≢ 10) is.0
    all = one_by_one (λ byte. byte ≢ 10) is.0 is.1

    by : (line ≡ codes "MODULE " ++ is.0) ⊎ (line ≡ codes "INFO " ++ is.0)
        → IsReadAs (line ++ codes "\n") (OtherLine ∷ [])
    by (inl e) = subst (λ l. IsReadAs (l ++ codes "\n") (OtherLine ∷ [])) (sym e)
        (line_reads (text_line (codes "MODULE ") is.0 (tested 10 (codes "MODULE ") refl) all) refl)
    by (inr e) = subst (λ l. IsReadAs (l ++ codes "\n") (OtherLine ∷ [])) (sym e)
        (line_reads (text_line (codes "INFO ") is.0 (tested 10 (codes "INFO ") refl) all) refl)

-- nor are several
front_reads : (front : List (List ℕ)) → AllByRecursion IsModuleLine front
    → IsReadAs (with_breaks front) (map (λ line. OtherLine) front)
front_reads [] all = none_read
front_reads (line ∷ front) all =
    subst (λ text. IsReadAs text (OtherLine ∷ map (λ other. OtherLine) front))
    (append_assoc line (codes "\n") (with_breaks front))
    (both_read (module_line_reads line all.0) (front_reads front all.1))

-- what stands in front says nothing else, and hides nothing
pub front_read : (front : List (List ℕ)) (rest : List ℕ) → All IsModuleLine front
    → read_text (with_breaks front ++ rest) ≡ map (λ line. OtherLine) front ++ read_text rest
front_read front rest all = (front_reads front (one_by_one IsModuleLine front all)).is rest

-- some lines are the first of them and the others
abbrev HasFirst : List (List ℕ) → Type 0
HasFirst all = (first : List ℕ) × ((others : List (List ℕ)) × (all ≡ first ∷ others))

-- there is a line in front of a line break
has_first : (front : List ℕ) → HasFirst (lines (front ++ codes "\n"))
has_first [] = ([], ([], refl))
has_first (b ∷ front) = by (b == 10) (has_first front)
  where
    by : (t : Bool) → HasFirst (lines (front ++ codes "\n"))
        → HasFirst (if t then [] ∷ lines (front ++ codes "\n") else in_front_of b (lines (front ++ codes "\n")))
    by true rest = ([], (lines (front ++ codes "\n"), refl))
    by false (first, rest) = (b ∷ first, (rest.0, ap (in_front_of b) rest.1))

-- a byte in front of the first of some lines stands in front of none of those that follow them
in_front_apart : (b : ℕ) (all more : List (List ℕ)) → HasFirst all
    → in_front_of b (all ++ more) ≡ in_front_of b all ++ more
in_front_apart b all more has =
    let others : List (List ℕ) = has.1.0 in
    ap (λ some. in_front_of b (some ++ more)) has.1.1 ∙ sym (ap (λ some. in_front_of b some ++ more) has.1.1)

-- the lines of a text that goes on after a line break are those of its parts
lines_apart : (front rest : List ℕ) → lines ((front ++ codes "\n") ++ rest) ≡ lines (front ++ codes "\n") ++ lines rest
lines_apart [] rest = refl
lines_apart (b ∷ front) rest = by (b == 10) (lines_apart front rest)
  where
    all : List (List ℕ)
    all = lines (front ++ codes "\n")

    by : (t : Bool) → lines ((front ++ codes "\n") ++ rest) ≡ all ++ lines rest
        → (if t then [] ∷ lines ((front ++ codes "\n") ++ rest)
        else in_front_of b (lines ((front ++ codes "\n") ++ rest)))
        ≡ (if t then [] ∷ all else in_front_of b all) ++ lines rest
    by true e = ap (λ some. [] ∷ some) e
    by false e = ap (in_front_of b) e ∙ in_front_apart b all (lines rest) (has_first front)

-- what two lists of lines say one after the other
map_both : (xs ys : List (List ℕ)) → map read_line (xs ++ ys) ≡ map read_line xs ++ map read_line ys
map_both [] ys = refl
map_both (x ∷ xs) ys = ap (λ said. read_line x ∷ said) (map_both xs ys)

-- a text that goes on after a line break says what its parts do
pub parts_read : (front rest : List ℕ)
    → read_text ((front ++ codes "\n") ++ rest) ≡ read_text (front ++ codes "\n") ++ read_text rest
unfolding read_text
parts_read front rest =
    ap (map read_line) (lines_apart front rest) ∙ map_both (lines (front ++ codes "\n")) (lines rest)

-- what the parts of a text say
pub ruleset apart = (parts_read)
