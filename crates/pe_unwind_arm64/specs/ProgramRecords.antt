-- All unwind records of a program: those of its exception directory's entries.
use Rattle.std.specs.Prelude.{◌≡◌, ℕ, List, [], ◌∷◌, ◌++◌, Result, Ok, Err}
use Rattle.pe_image.specs.Arm64Directory.{arm64_entries}
use Rattle.pe_image.specs.Image.{Program}
use Rattle.pe_image.specs.declared.arm64_directory.Arm64Entry.{Arm64Entry}
use Rattle.pe_unwind_arm64.specs.CfiText.{ShowText}
use Rattle.pe_unwind_arm64.specs.Functions.{Function, function_at, reach_behind}
use Rattle.pe_unwind_arm64.specs.declared.unwind_errors.EntryError.{EntryError}
use Rattle.pe_unwind_arm64.specs.declared.program_records.OmittedEntry.{OmittedEntry}

-- the output so far: the text of records, and the entries that were left out
pub record Written : Type 0 where
  pub text : List ℕ
  pub left_out : List OmittedEntry

-- before anything is written
abbrev pub nothing_written : Written
nothing_written = record { text = []; left_out = [] }

-- the output after an entry: its function's records; a refused function is left out, with the refusal
abbrev pub Adds : Arm64Entry → Result Function EntryError → Written → Written → Type 0
Adds entry (Ok function) old new = ShowText old.text new.text (Ok function) × (new.left_out ≡ old.left_out)
Adds entry (Err refusal) old new =
    (new.text ≡ old.text) × (new.left_out ≡ old.left_out ++ record { begin = entry.begin; why = refusal } ∷ [])

-- the output after entries, in order; the functions before them reach up to an address
abbrev pub AddsAll : Program → ℕ → List Arm64Entry → Written → Written → Type 0
AddsAll program reach [] old new = new ≡ old
AddsAll program reach (entry ∷ entries) old new = (middle : Written)
    × Adds entry (function_at program reach entry) old middle
    × AddsAll program (reach_behind program reach entry) entries middle new

-- all unwind records of a program: those of all entries
abbrev pub AreUnwindRecords : Program → Written → Type 0
AreUnwindRecords program written = AddsAll program 0 (arm64_entries program) nothing_written written
