-- All unwind records of a program: those of its exception directory's entries, and those of leaf functions.
use Rattle.std.specs.Prelude.{◌≡◌, ℕ, List, [], ◌∷◌, ◌++◌, Result, Ok, Err}
use Rattle.pe_image.specs.ExceptionDirectory.{function_entries}
use Rattle.pe_image.specs.Image.{Program}
use Rattle.pe_image.specs.declared.exception_directory.FunctionEntry.{FunctionEntry}
use Rattle.pe_unwind.specs.CfiText.{ShowText}
use Rattle.pe_unwind.specs.Functions.{FunctionCode, function_at, reach_behind}
use Rattle.pe_unwind.specs.LeafCode.{leaf_text}
use Rattle.pe_unwind.specs.declared.unwind_errors.EntryError.{EntryError}
use Rattle.pe_unwind.specs.declared.program_records.OmittedEntry.{OmittedEntry}

-- the output so far: the text of records, and the entries that were left out
pub record Written : Type 0 where
  pub text : List ℕ
  pub left_out : List OmittedEntry

-- before anything is written
abbrev pub nothing_written : Written
nothing_written = record { text = []; left_out = [] }

-- the output after an entry: its function's records; a refused function is left out, with the refusal
abbrev pub Adds : FunctionEntry → Result FunctionCode EntryError → Written → Written → Type 0
Adds entry (Ok function) old new = ShowText old.text new.text entry (Ok function) × (new.left_out ≡ old.left_out)
Adds entry (Err refusal) old new =
    (new.text ≡ old.text) × (new.left_out ≡ old.left_out ++ record { begin = entry.begin; why = refusal } ∷ [])

-- the output after entries, in order; the functions before them reach up to an address
abbrev pub AddsAll : Program → ℕ → List FunctionEntry → Written → Written → Type 0
AddsAll program reach [] old new = new ≡ old
AddsAll program reach (entry ∷ entries) old new = (middle : Written)
    × Adds entry (function_at program reach entry) old middle
    × AddsAll program (reach_behind program reach entry) entries middle new

-- all unwind records of a program: those of all entries, and after them those of leaf functions
pub record AreUnwindRecords (program : Program) (written : Written) : Type 0 where
  pub listed : Written
  pub adds : AddsAll program 0 (function_entries program) nothing_written listed
  pub text : written.text ≡ listed.text ++ leaf_text program (function_entries program)
  pub left_out : written.left_out ≡ listed.left_out
