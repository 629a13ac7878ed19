-- What a call for frames writes into the caller's buffers.
use Rattle.std.specs.Prelude.{◌≡◌, ℕ, ℤ, pos, List, Option, None, Result, Ok, Err, if◌then◌else◌}
use Rattle.pdb_records.specs.Records.{Records}
use Rattle.pdb_addr2line.specs.ContextInputs.{ContextState}
use Rattle.pdb_c.specs.declared.call_error.CallError.{CallError}
use Rattle.pdb_c.specs.declared.call_error.CallError.TheVariants.{BufferTooSmall}
use Rattle.pdb_c.specs.declared.frame_rows.FrameRow.{FrameRow}
use Rattle.pdb_c.specs.declared.found_frames.AnswerSizes.{AnswerSizes}
use Rattle.pdb_c.specs.declared.found_frames.FoundFrames.{FoundFrames}
use Rattle.pdb_c.specs.declared.found_frames.Question.{Question}
use Rattle.pdb_c.specs.FoundFrames.{Shown, shown, shown_view, put_at_start, fits, sizes}
use Rattle.pdb_c.specs.CallError.{code}
use Rattle.pdb_c.specs.ReportTexts.{Agrees}
use Rattle.pdb_c.specs.Questions.{answer_of_handle, LeavesHandle}

-- the buffers, the sizes and the return value after a call, by its answer or refusal. Rows and texts change only if
-- both fit
abbrev pub LeavesFrames : Result Shown CallError → (rows rows' : List FrameRow) → (texts texts' : List ℕ)
    → AnswerSizes → ℤ → Type 0
LeavesFrames (Ok found) rows rows' texts texts' size answer =
    (rows' ≡ (if fits found rows texts then put_at_start found.rows rows else rows))
    × (texts' ≡ (if fits found rows texts then put_at_start found.texts texts else texts))
    × (size ≡ sizes found)
    × (answer ≡ (if fits found rows texts then pos 0 else code BufferTooSmall))
LeavesFrames (Err refusal) rows rows' texts texts' size answer =
    (rows' ≡ rows) × (texts' ≡ texts) × (size ≡ sizes (shown None)) × (answer ≡ code refusal)

-- the model of what was found
abbrev pub shown_result : Result FoundFrames CallError → Result Shown CallError
shown_result (Ok found) = Ok (shown_view found)
shown_result (Err refusal) = Err refusal

-- the end of a call for frames: it has the defined answer of the handle's context, except after an allocation failure
pub record EndsWithFrames (held held' : Option (ContextState Records)) (asked : Question)
    (rows rows' : List FrameRow) (texts texts' : List ℕ) (size : AnswerSizes) (answer : ℤ) : Type 0 where
  pub found : Result Shown CallError
  pub agrees : Agrees (λ shown. shown) found (answer_of_handle held asked)
  pub left : LeavesFrames found rows rows' texts texts' size answer
  pub holds : LeavesHandle found held asked held'
