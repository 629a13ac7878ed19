-- The results of calls that print.
use Rattle.std.specs.Prelude.{◌≡◌, ◌≢◌, ℕ, Bool, true, false, List, Some, None}
use Rattle.std.specs.Prelude.{Result, Ok, Err, option_map, String, string_bytes}
use Rattle.std.specs.Global.{Global}
use Rattle.pdb_errors.specs.declared.error.Error.{Error}
use Rattle.pdb_errors.specs.declared.error.Error.TheVariants.{OutOfMemory, FormatError}
use Rattle.pdb_errors.specs.Errors.{error_view}
use Rattle.pdb_types.specs.FailedParts.{Parts}
use Rattle.pdb_type_texts.specs.Documents.{Run, failure_error}

-- a run fails with this error, and these parts have failed by then
pub record FailsWith (r : Run) (e : Error) (after : Parts) : Type 0 where
  pub error : option_map failure_error r.fault ≡ Some (error_view e)
  pub failed : r.failed ≡ after

-- the result has the text or the error of a run, except after an allocation failure
abbrev pub AnswersText : Run → Result (String Global) Error → Parts → Type 0
AnswersText r (Ok text) failed = r ≡ record { text = string_bytes text; fault = None; failed = failed }
AnswersText r (Err e) failed = e ≢ OutOfMemory → FailsWith r e failed

-- whether an error means that the writer refused
abbrev pub is_format_error : Error → Bool
is_format_error (FormatError e) = true
is_format_error other = false

-- whether an error is an allocation failure
abbrev pub ran_out_of_memory : Error → Bool
ran_out_of_memory OutOfMemory = true
ran_out_of_memory other = false

-- the text that was written before an error: all that the run printed, or nothing after an allocation failure. It isn't
-- defined how much a refusing writer took
pub record Fails {W : Type 0} (gives : W → List ℕ → W → Type 0) (r : Run) (before after : W) (e : Error)
    (failed : Parts) : Type 0 where
  pub error : e ≢ OutOfMemory → is_format_error e ≡ false → FailsWith r e failed × gives before r.text after
  pub refused : is_format_error e ≡ true → r.failed ≡ failed
  pub unwritten : e ≡ OutOfMemory → after ≡ before

-- the writer, the result and the failed parts after a call are those of a run
abbrev pub AnswersWritten : {W A : Type 0} → (W → List ℕ → W → Type 0) → Run → W → W → Result A Error → Parts
    → Type 0
AnswersWritten gives r before after (Ok done) failed =
    (r.fault ≡ None) × (r.failed ≡ failed) × gives before r.text after
AnswersWritten gives r before after (Err e) failed = Fails gives r before after e failed
