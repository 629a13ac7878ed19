-- Which parts of the records failed before changes no answer but an error.
use Rattle.std.proofs.Common.{◌≡◌, ◌∙◌, ℕ, List, [], ◌∷◌, sym, ap, refl}
use Rattle.std.specs.Prelude.{Option, Some, None, Result, Ok, Err, map, option_map}
use Rattle.std.specs.Result.{result_ok}
use Rattle.pdb_types.specs.FailedParts.{Parts}
use Rattle.pdb_records.specs.Provided.{ProviderInfos}
use Rattle.pdb_errors.specs.declared.error.Error.{Error}
use Rattle.pdb_frames.specs.CodeParts.{CodeParts}
use Rattle.pdb_frames.specs.Frame.{FramesInfo}
use Rattle.pdb_frames.specs.declared.code_parts.CodePart.{CodePart}
use Rattle.pdb_type_texts.specs.Documents.{PrintError, Document, run}
use Rattle.pdb_type_texts.specs.Ids.{id_of_index}
use Rattle.pdb_type_texts.specs.Printed.{document_of}
use Rattle.pdb_type_texts.specs.Signatures.{signature}
use Rattle.pdb_type_texts.specs.PrintInputs.{formatter_inputs}
use Rattle.pdb_addr2line.specs.Calls.{AnswerView, FramesView, TextView, answer_to, after_call, answers_to, printed}
use Rattle.pdb_addr2line.specs.Calls.{text_unless, successful, fresh}
use Rattle.pdb_addr2line.specs.declared.calls.Call.{Call}
use Rattle.pdb_addr2line.specs.declared.calls.Call.TheVariants.{FindFrames, Functions, FormatFunction, FormatId}
use Rattle.pdb_addr2line.specs.FunctionIter.{start_addresses}
use Rattle.pdb_addr2line.specs.Lookups.{frames_at, frames_answered, blamed_at, answered_refusal}
use Rattle.pdb_function_info.specs.NameTexts.{faultless}
use Rattle.pdb_addr2line.specs.ContextInputs.{ContextState}
use Rattle.pdb_function_info.proofs.NameLemmas.{same-text}
use Rattle.pdb_addr2line.proofs.FunctionLemmas.{inputs_stay}

-- a refusal is a refusal, whatever is answered for it
ok_of_answered : {A : Type 0} (failed : CodeParts) (part : Option CodePart) (answer : Result A Error)
    → result_ok (answered_refusal failed part answer) ≡ result_ok answer
ok_of_answered failed part (Ok answer) = refl
ok_of_answered failed part (Err e) = refl

-- a text that was printed is the text of the run
text_of_printed : (fault : Option PrintError) (text : List ℕ) → result_ok (text_unless fault text) ≡ faultless fault text
text_of_printed None text = refl
text_of_printed (Some failure) text = refl

-- a document is printed with the same text, if it has one, whatever failed before
same_printed : (d : Document) (failed failed' : Parts)
    → result_ok (printed (run d failed)) ≡ result_ok (printed (run d failed'))
same_printed d failed failed' =
    text_of_printed (run d failed).fault (run d failed).text
    ∙ same-text d failed failed'
    ∙ sym (text_of_printed (run d failed').fault (run d failed').text)

-- what the answer of a text shows, unless it is an error
abbrev text_view_of : Option (List ℕ) → Option AnswerView
text_view_of text = option_map (λ t. TextView (Ok t)) text

-- what the answer of frames shows, unless it is an error
abbrev frames_view_of : Option (Option FramesInfo) → Option AnswerView
frames_view_of frames = option_map (λ f. FramesView (Ok f)) frames

-- frames are answered alike, unless they are refused, whatever failed before
same_frames : {P : Type 0} (info : P → ProviderInfos) (c c' : ContextState P) (address : ℕ) → c.inputs ≡ c'.inputs
    → successful (FramesView (frames_answered info c address)) ≡ successful
    (FramesView (frames_answered info c' address))
same_frames info c c' address same =
    ap frames_view_of (
    ok_of_answered c.code_failed (blamed_at info c.inputs address) (frames_at info c.inputs address)
    ∙ ap (λ s. result_ok (frames_at info s address)) same
    ∙ sym (ok_of_answered c'.code_failed (blamed_at info c'.inputs address) (frames_at info c'.inputs address)))

-- a successful answer is the same, and an error is one, whatever failed before
pub same_success : {P : Type 0} (info : P → ProviderInfos) (c c' : ContextState P) (call : Call) → c.inputs ≡ c'.inputs
    → successful (answer_to info c call) ≡ successful (answer_to info c' call)
same_success info c c' (FindFrames address) same = same_frames info c c' address same
same_success info c c' (FormatFunction name m index) same =
    let w = formatter_inputs info c'.inputs.type_inputs m in
    rw same (ap text_view_of (same_printed (document_of w (signature w name.now index.0)) c.failed c'.failed))
same_success info c c' (FormatId m index) same =
    let w = formatter_inputs info c'.inputs.type_inputs m in
    rw same (ap text_view_of (same_printed (document_of w (id_of_index index.0)) c.failed c'.failed))
same_success info c c' _ same = rw same refl

-- a call leaves a context's inputs unchanged
pub same_inputs : {P : Type 0} (info : P → ProviderInfos) (c : ContextState P) (call : Call)
    → (after_call info c call).inputs ≡ c.inputs
same_inputs info c Functions = inputs_stay info c (start_addresses info c.inputs)
same_inputs info c _ = refl

-- calls are answered successfully as a fresh context answers each of them
pub same_answers : {P : Type 0} (info : P → ProviderInfos) (c : ContextState P) (calls : List Call)
    → map successful (answers_to info c calls) ≡ map (λ call. successful (answer_to info (fresh c.inputs) call)) calls
same_answers info c [] = refl
same_answers info c (call ∷ calls) =
    let first = same_success info c (fresh c.inputs) call refl in
    let rest = same_answers info (after_call info c call) calls in
    let inputs = same_inputs info c call in
    rw (first, rest, inputs) refl
