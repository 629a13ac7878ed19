-- The names that a reader finds by their numbers.
use Rattle.std.proofs.Common.{◌≡◌, ◌∙◌, ℕ, suc, zero, ◌+◌, List, [], ◌∷◌, ◌++◌}
use Rattle.std.proofs.Common.{refl, ap, arith, append_assoc, map, slice_get, Some, if◌then◌else◌, ne_eqb, eq-eqb}
use Rattle.pdb_breakpad.specs.RecordTypes.{Numbers}
use Rattle.pdb_symbol_file_laws.specs.RecordReader.{file_named, origin_named}
use Rattle.pdb_symbol_file_laws.specs.SymbolFileRecords.{names_read, numbered, on_one_line}
use Rattle.pdb_symbol_file_laws.specs.SymbolTextReader.{SymbolLine, File, InlineOrigin, OtherLine}

-- among numbered files a reader finds the one with a number
file_found : (from n : ℕ) (files : List (List ℕ)) (name : List ℕ) (lines : List SymbolLine)
    → slice_get files n ≡ Some name
    → file_named (from + n) (numbered File from files ++ lines) ≡ on_one_line name
file_found from n [] name lines is = absurd (cc is)
file_found from zero (file ∷ files) name lines is =
    ap (λ t. if t then on_one_line file else file_named (from + 0) (numbered File (from + 1) files ++ lines))
    (eq-eqb from (from + 0) (omega arith))
    ∙ ap on_one_line (cc is)
file_found from (suc n) (file ∷ files) name lines is =
    ap (λ t. if t then on_one_line file else file_named (from + suc n) (numbered File (from + 1) files ++ lines))
    (ne_eqb from (from + suc n) (λ e. omega arith))
    ∙ ap (λ m. file_named m (numbered File (from + 1) files ++ lines)) (more from n)
    ∙ file_found (from + 1) n files name lines is
  where
    more : (a b : ℕ) → a + suc b ≡ (a + 1) + b
    more a b = omega arith

-- what stands in front is no name
file_behind_others : (number : ℕ) (front : List (List ℕ)) (lines : List SymbolLine)
    → file_named number (map (λ line. OtherLine) front ++ lines) ≡ file_named number lines
file_behind_others number [] lines = refl
file_behind_others number (line ∷ front) lines = file_behind_others number front lines

origin_behind_others : (number : ℕ) (front : List (List ℕ)) (lines : List SymbolLine)
    → origin_named number (map (λ line. OtherLine) front ++ lines) ≡ origin_named number lines
origin_behind_others number [] lines = refl
origin_behind_others number (line ∷ front) lines = origin_behind_others number front lines

-- a file is no inlined function
origin_behind_files : (number from : ℕ) (files : List (List ℕ)) (lines : List SymbolLine)
    → origin_named number (numbered File from files ++ lines) ≡ origin_named number lines
origin_behind_files number from [] lines = refl
origin_behind_files number from (file ∷ files) lines = origin_behind_files number (from + 1) files lines

-- among numbered names of inlined functions a reader finds the one with a number
origin_found : (from n : ℕ) (origins : List (List ℕ)) (name : List ℕ) (lines : List SymbolLine)
    → slice_get origins n ≡ Some name
    → origin_named (from + n) (numbered InlineOrigin from origins ++ lines) ≡ on_one_line name
origin_found from n [] name lines is = absurd (cc is)
origin_found from zero (origin ∷ origins) name lines is =
    ap (λ t. if t then on_one_line origin
    else origin_named (from + 0) (numbered InlineOrigin (from + 1) origins ++ lines))
    (eq-eqb from (from + 0) (omega arith))
    ∙ ap on_one_line (cc is)
origin_found from (suc n) (origin ∷ origins) name lines is =
    ap (λ t. if t then on_one_line origin
    else origin_named (from + suc n) (numbered InlineOrigin (from + 1) origins ++ lines))
    (ne_eqb from (from + suc n) (λ e. omega arith))
    ∙ ap (λ m. origin_named m (numbered InlineOrigin (from + 1) origins ++ lines)) (more from n)
    ∙ origin_found (from + 1) n origins name lines is
  where
    more : (a b : ℕ) → a + suc b ≡ (a + 1) + b
    more a b = omega arith

-- all records of a file: those in front, those of names, and more
abbrev pub whole : List (List ℕ) → Numbers → List SymbolLine → List SymbolLine
whole front numbers lines = map (λ line. OtherLine) front ++ (names_read numbers ++ lines)

-- a reader finds the file with a number
pub file_is : (front : List (List ℕ)) (numbers : Numbers) (lines : List SymbolLine) (n : ℕ) (name : List ℕ)
    → slice_get numbers.files n ≡ Some name → file_named n (whole front numbers lines) ≡ on_one_line name
file_is front numbers lines n name is =
    file_behind_others n front (names_read numbers ++ lines)
    ∙ ap (file_named n)
    (append_assoc (numbered File 0 numbers.files) (numbered InlineOrigin 0 numbers.origins) lines)
    ∙ ap (λ m. file_named m (numbered File 0 numbers.files ++ (numbered InlineOrigin 0 numbers.origins ++ lines)))
    (none n)
    ∙ file_found 0 n numbers.files name (numbered InlineOrigin 0 numbers.origins ++ lines) is
  where
    none : (n : ℕ) → n ≡ 0 + n
    none n = omega arith

-- a reader finds the inlined function with a number
pub origin_is : (front : List (List ℕ)) (numbers : Numbers) (lines : List SymbolLine) (n : ℕ) (name : List ℕ)
    → slice_get numbers.origins n ≡ Some name → origin_named n (whole front numbers lines) ≡ on_one_line name
origin_is front numbers lines n name is =
    origin_behind_others n front (names_read numbers ++ lines)
    ∙ ap (origin_named n)
    (append_assoc (numbered File 0 numbers.files) (numbered InlineOrigin 0 numbers.origins) lines)
    ∙ origin_behind_files n 0 numbers.files (numbered InlineOrigin 0 numbers.origins ++ lines)
    ∙ ap (λ m. origin_named m (numbered InlineOrigin 0 numbers.origins ++ lines)) (none n)
    ∙ origin_found 0 n numbers.origins name lines is
  where
    none : (n : ℕ) → n ≡ 0 + n
    none n = omega arith
