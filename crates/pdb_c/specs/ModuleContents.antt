-- The module files of a records file: their names, and their contents as C code gives them.
use Rattle.std.specs.Prelude.{ℕ, List, [], ◌∷◌, ◌++◌, take, drop, Result, Ok}
use Rattle.pdb_errors.specs.Outcomes.{and_then}
use Rattle.pdb_json.specs.RecordsFile.{module_files_of}
use Rattle.pdb_c.specs.declared.call_error.CallError.{CallError}
use Rattle.pdb_c.specs.CallError.{refusal_of}
use Rattle.pdb_c.specs.ReportTexts.{with_refusal}

-- joined contents, split by these lengths; the last ones are shorter if the bytes end early
abbrev pub cut_after : List ℕ → List ℕ → List (List ℕ)
cut_after [] contents = []
cut_after (length ∷ lengths) contents = take length contents ∷ cut_after lengths (drop length contents)

-- the zero-terminated names in a row
abbrev pub names_text : List (List ℕ) → List ℕ
names_text [] = []
names_text (name ∷ names) = name ++ 0 ∷ names_text names

-- the names of the module files that a records file wants, as one text, or the refusal for its fault
abbrev pub module_files_text : List ℕ → Result (List ℕ) CallError
module_files_text bytes =
    and_then (with_refusal refusal_of (module_files_of bytes)) (λ names. Ok (names_text names))
