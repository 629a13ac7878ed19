-- Source files of server data, found by their names in lower case.
use Rattle.std.proofs.Common.{◌≡◌, ◌∙◌, ℕ, ◌+◌, Bool, true, false, List, [], ◌∷◌, ◌++◌, length, take, refl, ap, sym}
use Rattle.std.proofs.Common.{add-one, arith, cond}
use Rattle.std.proofs.Math.Seq.{take-append_seam}
use Rattle.std.proofs.lemmas.List.{length-map, map-append}
use Rattle.std.specs.Prelude.{Option, Some, None, option_and_then, option_map, slice_get}
use Rattle.std.specs.BTreeMap.{BTreeMap, get}
use Rattle.std.specs.Cmp.Lexicographic.{slice_cmp}
use Rattle.std.specs.Global.{Vec}
use Rattle.std.specs.List.{position_from}
use Rattle.std.specs.Option.{option_or}
use Rattle.std.specs.Ordering.{nat_cmp}
use Rattle.std.specs.Str.{bytes_eq, str_to_ascii_lowercase}
use Rattle.pdb_source_urls.specs.ServerFiles.{File, KnowsFirsts, file_of, files_of, first_position}
use Rattle.pdb_source_urls.specs.ServerUrls.{file_line}
use Rattle.pdb_source_urls.specs.TextCuts.{first_field}
use Rattle.pdb_source_urls.proofs.PathNameLemmas.{alike-lower}

-- positions that are counted from a later one
position_later : {A : Type 0} (test : A → Bool) (from : ℕ) (xs : List A)
    → position_from test (from + 1) xs ≡ option_map (λ at. at + 1) (position_from test from xs)
position_later test from [] = refl
position_later test from (x ∷ xs) =
    elim (test x) as (λ b. cond b (Some (from + 1)) (position_from test (from + 1 + 1) xs)
    ≡ option_map (λ at. at + 1) (cond b (Some from) (position_from test (from + 1) xs))) [
      | true ↦ refl
      | false ↦ position_later test (from + 1) xs
    ]

-- the first position in a list with one more element
position_pushed : {A : Type 0} (test : A → Bool) (from : ℕ) (xs : List A) (x : A)
    → position_from test from (xs ++ x ∷ [])
    ≡ option_or (position_from test from xs) (cond (test x) (Some (from + length xs)) None)
position_pushed test from [] x =
    let same : from ≡ from + 0 = omega arith in ap (λ at. cond (test x) (Some at) None) same
position_pushed test from (y ∷ xs) x =
    let same : from + 1 + length xs ≡ from + length (y ∷ xs) = omega arith in
    elim (test y) as (λ b. cond b (Some from) (position_from test (from + 1) (xs ++ x ∷ []))
    ≡ option_or (cond b (Some from) (position_from test (from + 1) xs))
    (cond (test x) (Some (from + length (y ∷ xs))) None)) [
      | true ↦ refl
      | false ↦ position_pushed test (from + 1) xs x
          ∙ ap (λ at. option_or (position_from test (from + 1) xs) (cond (test x) (Some at) None)) same
    ]

-- the line of the file at a position
abbrev pub line_at : List File → ℕ → Option (List ℕ)
line_at files position = option_map (λ file. file.line) (slice_get files position)

-- one position further in a list with one more file before it
line_later : (file : File) (files : List File) (found : Option ℕ)
    → option_and_then (line_at (file ∷ files)) (option_map (λ at. at + 1) found)
    ≡ option_and_then (line_at files) found
line_later file files None = refl
line_later file files (Some at) = rw add-one refl

-- the line of the first file of a name is that at the first position of the name in lower case
pub file_line_by_position : (name : List ℕ) (files : List File) → file_line name files
    ≡ option_and_then (line_at files) (first_position (str_to_ascii_lowercase name) files)
file_line_by_position name [] = refl
file_line_by_position name (file ∷ files) =
    let lower = str_to_ascii_lowercase name in
    let named : File → Bool = λ one. bytes_eq (str_to_ascii_lowercase one.name) lower in
    rw (alike-lower file.name name, position_later named 0 files)
    (elim (named file) as (λ b. cond b (Some file.line) (file_line name files)
    ≡ option_and_then (line_at (file ∷ files))
    (cond b (Some 0) (option_map (λ at. at + 1) (position_from named 0 files)))) [
      | true ↦ refl
      | false ↦ file_line_by_position name files ∙ sym (line_later file files (position_from named 0 files))
    ])

-- what a table says of a name
abbrev told : BTreeMap (Vec ℕ) ℕ → Vec ℕ → Option ℕ
told positions asked = get (λ a b. slice_cmp nat_cmp a.items b.items) positions asked

-- a line that was pushed is cut off again
pub cut_again : (lines pushed cut : List (Vec ℕ)) (line : Vec ℕ) (position : ℕ) → position ≡ length lines
    → pushed ≡ lines ++ line ∷ [] → cut ≡ take position pushed → files_of cut ≡ files_of lines
cut_again lines pushed cut line position count push is =
    ap files_of (is ∙ ap (λ at. take at pushed) count ∙ ap (take (length lines)) push
    ∙ take-append_seam lines (line ∷ []))

-- a table in which nothing is put knows the same files
pub knows_same : (old new : BTreeMap (Vec ℕ) ℕ) (files all : List File) → KnowsFirsts old files → all ≡ files
    → ((asked : Vec ℕ) → told new asked ≡ told old asked) → KnowsFirsts new all
knows_same old new files all knows same kept asked =
    kept asked ∙ knows asked ∙ ap (first_position asked.items) (sym same)

-- a table in which the name of a pushed line was put, unless it was there already, knows the files with this one
pub knows_pushed : (old new : BTreeMap (Vec ℕ) ℕ) (lines pushed : List (Vec ℕ)) (line key : Vec ℕ) (position : ℕ)
    → KnowsFirsts old (files_of lines) → position ≡ length lines → pushed ≡ lines ++ line ∷ []
    → key.items ≡ str_to_ascii_lowercase (first_field line.items)
    → ((asked : Vec ℕ) → told new asked
    ≡ option_or (told old asked) (cond (bytes_eq key.items asked.items) (Some position) None))
    → KnowsFirsts new (files_of pushed)
knows_pushed old new lines pushed line key position knows count push is put asked =
    let named : File → Bool = λ one. bytes_eq (str_to_ascii_lowercase one.name) asked.items in
    let before = position_from named 0 (files_of lines) in
    let file = file_of line.items in
    let last : position ≡ 0 + length (files_of lines)
    = omega (arith, count, length-map lines (λ (one : Vec ℕ). file_of one.items)) in
    put asked
    ∙ ap (λ first. option_or first (cond (bytes_eq key.items asked.items) (Some position) None)) (knows asked)
    ∙ ap (λ name. option_or before (cond (bytes_eq name asked.items) (Some position) None)) is
    ∙ ap (λ at. option_or before (cond (named file) (Some at) None)) last
    ∙ sym (position_pushed named 0 (files_of lines) file)
    ∙ ap (position_from named 0) (sym (map-append (λ (one : Vec ℕ). file_of one.items) lines (line ∷ [])))
    ∙ ap (λ some. first_position asked.items (files_of some)) (sym push)
