-- Frames that a session answers or refuses, beside those of a plain scan.
use Rattle.std.proofs.Common.{◌≡◌, ◌∙◌, ℕ, List, ap, refl, subst, sym}
use Rattle.std.specs.Prelude.{◌≢◌, Option, None, Result, Ok, Err}
use Rattle.pdb_records.specs.Records.{Records}
use Rattle.pdb_errors.specs.declared.error.Error.{Error}
use Rattle.pdb_errors.specs.declared.error.Error.TheVariants.{OutOfMemory}
use Rattle.pdb_frames.specs.CodeParts.{CodeParts}
use Rattle.pdb_frames.specs.Frame.{FramesInfo}
use Rattle.pdb_frames.specs.declared.code_parts.CodePart.{CodePart}
use Rattle.pdb_addr2line.specs.ContextInputs.{ContextInputs, ContextState}
use Rattle.pdb_addr2line.specs.Lookups.{answered_refusal, blamed_at, frames_at}
use Rattle.pdb_addr2line.specs.NamedFunctions.{named_answer, named_frames_answered, symbol_name_at}
use Rattle.pdb_known.specs.Known.{infos_of}
use Rattle.pdb_session.specs.Session.{GivesFrames, over}
use Rattle.pdb_session.specs.declared.session_context.QuestionError.{QuestionError}
use Rattle.pdb_session.specs.declared.session_context.QuestionError.TheVariants as fault
use Rattle.pdb_symbolizer_lib.specs.AnsweredRequests.{frames_or_none, scanned_frames}

-- in place of a refusal there are no frames, whatever failed before
same_or_none : (failed : CodeParts) (part : Option CodePart) (name : Option (List ℕ))
    (frames : Result (Option FramesInfo) Error)
    → frames_or_none (named_answer name (answered_refusal failed part frames))
    ≡ frames_or_none (named_answer name frames)
same_or_none failed part name (Ok found) = refl
same_or_none failed part name (Err error) = refl

-- what is answered of frames is what a plain scan finds
answer_is_scanned : (state : ContextState Records) (inputs : ContextInputs Records) (address : ℕ)
    → frames_or_none (named_frames_answered infos_of (over state inputs) address) ≡ scanned_frames inputs address
answer_is_scanned state inputs address =
    same_or_none state.code_failed (blamed_at infos_of inputs address) (symbol_name_at infos_of inputs address)
    (frames_at infos_of inputs address)

-- frames that are answered are those of a plain scan
pub answered_are_scanned : (state : ContextState Records) (inputs : ContextInputs Records) (address : ℕ)
    (found : Option FramesInfo) → named_frames_answered infos_of (over state inputs) address ≡ Ok found
    → found ≡ scanned_frames inputs address
answered_are_scanned state inputs address found gives =
    sym (ap frames_or_none gives) ∙ answer_is_scanned state inputs address

-- frames that the records refuse are none, unless memory ran out
pub refused_are_none : (why : QuestionError) (error : Error) (state : ContextState Records)
    (inputs : ContextInputs Records) (address : ℕ) → why ≡ fault.Records error → error ≢ OutOfMemory
    → GivesFrames (Err why) state inputs address → None ≡ scanned_frames inputs address
refused_are_none why error state inputs address is other gives =
    sym (ap frames_or_none (subst (λ (f : QuestionError). GivesFrames (Err f) state inputs address) is gives other))
    ∙ answer_is_scanned state inputs address

-- what is answered was read
pub was_read : (why : QuestionError) (state : ContextState Records) (inputs : ContextInputs Records) (address : ℕ)
    → why ≡ fault.NotRead → GivesFrames (Err why) state inputs address → ⊥
was_read why state inputs address is gives =
    subst (λ (f : QuestionError). GivesFrames (Err f) state inputs address) is gives
