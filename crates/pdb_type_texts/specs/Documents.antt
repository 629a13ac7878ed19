-- Documents: what is printed, and the result of printing it.
use Rattle.std.specs.Prelude.{ℕ, ◌==◌, ◌-◌, ◌||◌, ◌++◌, Bool, false, List, []}
use Rattle.std.specs.Prelude.{Option, Some, None, length, slice_get, if◌then◌else◌}
use Rattle.pdb_records.specs.declared.error.Error.TheVariants as records
use Rattle.pdb_errors.specs.declared.error.Error.TheVariants.{PdbError}
use Rattle.pdb_types.specs.declared.read_error.Part.{Part}
use Rattle.pdb_errors.specs.Errors.{ErrorView, Plain}
use Rattle.pdb_types.specs.FailedParts.{Parts, with_part, part_error}
use Rattle.pdb_type_texts.specs.Wording.{missing_text}

-- why printing fails: no type has this number, in which case a note may be printed instead; or another error
pub data PrintError : Type 0 where
  TypeNotFound : ℕ → PrintError
  OfError : ErrorView → PrintError

-- the error of a failure
abbrev pub failure_error : PrintError → ErrorView
failure_error (TypeNotFound index) = Plain (PdbError (records.TypeNotFound index))
failure_error (OfError e) = e

-- a document to be printed
pub data Document : Type 0 where
  -- this text
  Text : List ℕ → Document
  -- one document, and then another, unless the first fails
  Seq : Document → Document → Document
  -- a document, or nothing if it fails. After it comes the first text if its text ends in `*` or `&`, otherwise the
  -- second
  Buffered : Document → List ℕ → List ℕ → Document
  -- a document; if it fails because of a missing type, a note of that follows its text
  Catch : Document → Document
  -- nothing: this failure
  Fail : PrintError → Document
  -- no text: this part of the records is broken, and is reported as this error the first time
  Ask : Part → ErrorView → Document
  -- no text and no error: this part of the records was found broken on the way
  Met : Part → Document

-- the result of printing a document: the text, the failure if there is one, and the parts that have failed by then
pub record Run : Type 0 where
  pub text : List ℕ
  pub fault : Option PrintError
  pub failed : Parts

-- whether a byte is `*`, 42, or `&`, 38
abbrev pub is_sigil : Option ℕ → Bool
is_sigil None = false
is_sigil (Some byte) = byte == 42 || byte == 38

-- whether a text ends in `*` or `&`
abbrev pub ends_in_sigil : List ℕ → Bool
ends_in_sigil text = is_sigil (slice_get text (length text - 1))

-- a run followed by another, which starts with the parts that have failed by then; a failed first run is the result
abbrev pub then_by : Option PrintError → Run → (Parts → Run) → Run
then_by (Some e) first second = first
then_by None first second =
    let next = second first.failed in
    record { text = first.text ++ next.text; fault = next.fault; failed = next.failed }

-- a run with one of two texts after it, by the end of its text; a failed run loses its text
abbrev pub buffered_by : Option PrintError → Run → List ℕ → List ℕ → Run
buffered_by (Some e) inner after_sigil after_other = record { text = []; fault = inner.fault; failed = inner.failed }
buffered_by None inner after_sigil after_other =
    let behind = if ends_in_sigil inner.text then after_sigil else after_other in
    record { text = inner.text ++ behind; fault = None; failed = inner.failed }

-- a run, with a note instead of its failure if a type is missing
abbrev pub caught_by : Option PrintError → Run → Run
caught_by None inner = inner
caught_by (Some (TypeNotFound index)) inner =
    record { text = inner.text ++ missing_text index; fault = None; failed = inner.failed }
caught_by (Some (OfError e)) inner = inner

-- the run of printing a document, if these parts of the records failed before
abbrev pub run : Document → Parts → Run
run (Text written) failed = record { text = written; fault = None; failed = failed }
run (Seq first second) failed = then_by (run first failed).fault (run first failed) (run second)
run (Buffered inner after_sigil after_other) failed =
    buffered_by (run inner failed).fault (run inner failed) after_sigil after_other
run (Catch inner) failed = caught_by (run inner failed).fault (run inner failed)
run (Fail e) failed = record { text = []; fault = Some e; failed = failed }
run (Ask part e) failed =
    record { text = []; fault = Some (OfError (part_error failed part e)); failed = with_part failed part }
run (Met part) failed = record { text = []; fault = None; failed = with_part failed part }
