-- From what a context answers and remembers to what a question finds and leaves.
use Rattle.std.proofs.Common.{◌≡◌, ℕ, List, [], ◌∷◌, refl, ap, Bor}
use Rattle.std.specs.Prelude.{Option, Some, None, Result, Ok, Err, Vec}
use Rattle.std.specs.declared.alloc.Global.{Global}
use Rattle.pdb_records.specs.Records.{Records}
use Rattle.pdb_errors.specs.Outcomes.{and_then}
use Rattle.pdb_addr2line.specs.ContextInputs.{ContextState}
use Rattle.pdb_report_lib.specs.declared.reports.Command.{Command}
use Rattle.pdb_c.specs.declared.call_error.CallError.{CallError}
use Rattle.pdb_c.specs.declared.call_error.CallError.TheVariants.{Closed}
use Rattle.pdb_c.specs.declared.found_frames.FoundFrames.{FoundFrames}
use Rattle.pdb_c.specs.declared.found_frames.Question.{Question}
use Rattle.pdb_c.specs.declared.found_frames.Question.TheVariants as question
use Rattle.pdb_c.specs.FoundFrames.{Shown, shown_text, shown_view}
use Rattle.pdb_c.specs.AnswerBuffers.{shown_result}
use Rattle.pdb_c.specs.ReportTexts.{Agrees}
use Rattle.pdb_c.specs.Buffers.{gathered}
use Rattle.pdb_c.specs.Questions.{report_asked, answer_of_handle, text_of_handle, IsLeftBy, IsLeftByReport}
use Rattle.pdb_c.specs.Questions.{LeavesHandle, LeavesReported, AnswersHandle, AnswersHeld}

-- what a report leaves by whether it was answered, whatever the answer is
pub report_left : {A B : Type 0} (a : A) (b : B) (before after : ContextState Records) (command : Command)
    (addresses : List ℕ) → IsLeftByReport (Ok a) before after command addresses
    → IsLeftByReport (Ok b) before after command addresses
report_left a b before after command [] left = left
report_left a b before after command (address ∷ addresses) left = left

-- the same of a refusal, whatever was asked
pub refusal_left : (A B : Type 0) (refusal : CallError) (before after : ContextState Records) (command : Command)
    (addresses : List ℕ) → IsLeftByReport {A = A} (Err refusal) before after command addresses
    → IsLeftByReport {A = B} (Err refusal) before after command addresses
refusal_left A B refusal before after command [] left = left
refusal_left A B refusal before after command (address ∷ addresses) left = left

-- a result and another agree by whether they are answers, and in their refusal
pub data Alike {A B : Type 0} : Result A CallError → Result B CallError → Type 0 where
  answers : (a : A) (b : B) → Alike (Ok a) (Ok b)
  refusals : (refusal : CallError) → Alike (Err refusal) (Err refusal)

-- what a report leaves is the same for both
left_alike : {A B : Type 0} (r : Result A CallError) (s : Result B CallError) (before after : ContextState Records)
    (command : Command) (addresses : List ℕ) → Alike r s
    → IsLeftByReport r before after command addresses → IsLeftByReport s before after command addresses
left_alike {A = A} {B = B} r s before after command addresses (answers a b) left =
    report_left a b before after command addresses left
left_alike {A = A} {B = B} r s before after command addresses (refusals why) left =
    refusal_left A B why before after command addresses left

-- and so is what a question leaves
question_alike : {A B : Type 0} (r : Result A CallError) (s : Result B CallError) (before : ContextState Records)
    (asked : Question) (after : ContextState Records) → Alike r s
    → IsLeftBy r before asked after → IsLeftBy s before asked after
question_alike r s before (question.Report command addresses) after alike left =
    left_alike r s before after command addresses.now alike left
question_alike r s before (question.NextStart address) after alike left = left
question_alike r s before (question.IsRead flags address) after alike left = left
question_alike r s before _ after (answers a b) left = left
question_alike r s before _ after (refusals why) left = left

-- and what a handle holds
pub handle_alike : {A B : Type 0} (r : Result A CallError) (s : Result B CallError)
    (held : Option (ContextState Records)) (asked : Question) (held' : Option (ContextState Records)) → Alike r s
    → LeavesHandle r held asked held' → LeavesHandle s held asked held'
handle_alike r s (Some context) asked (Some after) alike left = question_alike r s context asked after alike left
handle_alike r s _ asked held' alike left = left

-- and what it holds once it was asked for a text
pub texts_alike : {A B : Type 0} (r : Result A CallError) (s : Result B CallError)
    (held : Option (ContextState Records)) (command : Command) (addresses : List ℕ)
    (held' : Option (ContextState Records)) → Alike r s
    → LeavesReported r held command addresses held' → LeavesReported s held command addresses held'
texts_alike r s (Some context) command addresses (Some after) alike left =
    left_alike r s context after command addresses alike left
texts_alike r s _ command addresses held' alike left = left

-- what was found is alike as it is shown, and a text as its bytes
pub shown_alike : (found : Result FoundFrames CallError) → Alike found (shown_result found)
shown_alike (Ok found) = answers found (shown_view found)
shown_alike (Err why) = refusals why

pub gathered_alike : (found : Result (Vec ℕ Global) CallError) → Alike found (gathered found)
gathered_alike (Ok text) = answers text text.items
gathered_alike (Err why) = refusals why

-- what is found agrees as it is shown
pub shown_agrees : (found : Result FoundFrames CallError) (wanted : Result Shown CallError)
    → Agrees shown_view found wanted → Agrees (λ shown. shown) (shown_result found) wanted
shown_agrees (Ok found) wanted is = is
shown_agrees (Err why) wanted is = is

pub gathered_agrees : (found : Result (Vec ℕ Global) CallError) (wanted : Result (List ℕ) CallError)
    → Agrees (λ (text : Vec ℕ Global). text.items) found wanted → Agrees (λ text. text) (gathered found) wanted
gathered_agrees (Ok text) wanted is = is
gathered_agrees (Err why) wanted is = is

-- a handle whose context was not asked is closed
pub closed_answers : (held : Option (ContextState Records)) (asked : Question) → AnswersHeld None held asked
    → AnswersHandle (Err Closed) held asked
closed_answers None asked told = λ other. refl
closed_answers (Some context) asked told = absurd told

pub closed_leaves : {A : Type 0} (result : Result A CallError) (held held' : Option (ContextState Records))
    (asked : Question) → AnswersHeld None held asked → held' ≡ held → LeavesHandle result held asked held'
closed_leaves result None held' asked told is = is
closed_leaves result (Some context) held' asked told is = absurd told

-- a handle whose context was asked is open
pub open_answers : (result : Result FoundFrames CallError) (held : Option (ContextState Records)) (asked : Question)
    → AnswersHeld (Some result) held asked → AnswersHandle result held asked
open_answers result None asked told = absurd told
open_answers result (Some context) asked told = told
