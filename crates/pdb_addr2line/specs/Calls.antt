-- Calls of a context, and their answers.
use Rattle.std.specs.Prelude.{◌≡◌, ℕ, List, [], ◌∷◌, ◌++◌, Option, Some, None, Result, Ok, Err, length, map, option_map}
use Rattle.std.specs.Prelude.{string_bytes}
use Rattle.std.specs.Result.{result_map_both, result_ok}
use Rattle.pdb_errors.specs.Errors.{ErrorView, error_view}
use Rattle.pdb_types.specs.FailedParts.{Parts, with_met}
use Rattle.pdb_records.specs.Provided.{ProviderInfos}
use Rattle.pdb_types.specs.TypeSizes.{size_of}
use Rattle.pdb_errors.specs.declared.error.Error.{Error}
use Rattle.pdb_frames.specs.Frame.{FramesInfo}
use Rattle.pdb_type_texts.specs.Documents.{PrintError, failure_error, Run}
use Rattle.pdb_type_texts.specs.Printed.{signature_run, id_run}
use Rattle.pdb_addr2line.specs.declared.calls.Call.{Call}
use Rattle.pdb_addr2line.specs.declared.calls.Call.TheVariants.{FindFunction, FindFrames, Functions}
use Rattle.pdb_addr2line.specs.declared.calls.Call.TheVariants.{FunctionCount, TypeSize, FormatFunction, FormatId}
use Rattle.pdb_addr2line.specs.declared.calls.Answer.{Answer}
use Rattle.pdb_addr2line.specs.declared.calls.Answer.TheVariants as answer
use Rattle.pdb_function_info.specs.Function.{FunctionInfo, function_view}
use Rattle.pdb_addr2line.specs.FunctionIter.{functions_of, after_function, start_addresses}
use Rattle.pdb_addr2line.specs.FunctionIter.{after_functions, OnlyGainsBroken}
use Rattle.pdb_addr2line.specs.Lookups.{function_at, frames_answered, failed_after_frames, code_failed_after}
use Rattle.pdb_addr2line.specs.ContextInputs.{ContextState, ContextInputs, global_functions_of}

-- the model of an answer
pub data AnswerView : Type 0 where
  FunctionView : Option FunctionInfo → AnswerView
  FramesView : Result (Option FramesInfo) Error → AnswerView
  FunctionsView : List FunctionInfo → AnswerView
  CountView : ℕ → AnswerView
  SizeView : ℕ → AnswerView
  TextView : Result (List ℕ) ErrorView → AnswerView

-- the model of the code's answer
abbrev pub answer_view : Answer → AnswerView
answer_view (answer.Function f) = FunctionView (option_map function_view f)
answer_view (answer.Frames frames) = FramesView frames
answer_view (answer.Functions functions) = FunctionsView (map function_view functions.items)
answer_view (answer.Count count) = CountView count
answer_view (answer.Size size) = SizeView size
answer_view (answer.Text text) = TextView (result_map_both string_bytes error_view text)

-- a printed text, or the error of printing
abbrev pub text_unless : Option PrintError → List ℕ → Result (List ℕ) ErrorView
text_unless None text = Ok text
text_unless (Some failure) text = Err (failure_error failure)

-- the result of printing: the text, or the error if it failed
abbrev pub printed : Run → Result (List ℕ) ErrorView
printed r = text_unless r.fault r.text

-- the answer to one call: the result of a plain scan of the records, except that a part that failed before gives the
-- error for this
abbrev pub answer_to : {P : Type 0} → (P → ProviderInfos) → ContextState P → Call → AnswerView
answer_to info c (FindFunction address) = FunctionView (function_at info c.inputs address)
answer_to info c (FindFrames address) = FramesView (frames_answered info c address)
answer_to info c Functions = FunctionsView (functions_of info c.inputs)
answer_to info c FunctionCount = CountView (length (global_functions_of c.inputs))
answer_to info c (TypeSize m index) = SizeView (size_of info c.inputs.type_inputs m index.0).size
answer_to info c (FormatFunction name m index) =
    TextView (printed (signature_run info c.inputs.type_inputs m name.now index.0 c.failed))
answer_to info c (FormatId m index) = TextView (printed (id_run info c.inputs.type_inputs m index.0 c.failed))

-- a context after the frames at an address
abbrev pub after_frames : {P : Type 0} → (P → ProviderInfos) → ContextState P → ℕ → ContextState P
after_frames info c address = record {
  inputs = c.inputs;
  failed = failed_after_frames info c.inputs address c.failed;
  code_failed = code_failed_after info c address;
}

-- a context in whose formatter these parts have failed
abbrev pub with_failed : {P : Type 0} → ContextState P → Parts → ContextState P
with_failed c failed = record { inputs = c.inputs; failed = failed; code_failed = c.code_failed }

-- a context after a call; broken parts of the records that it found have failed
abbrev pub after_call : {P : Type 0} → (P → ProviderInfos) → ContextState P → Call → ContextState P
after_call info c (FindFunction address) = after_function info c address
after_call info c (FindFrames address) = after_frames info c address
after_call info c Functions = after_functions info c (start_addresses info c.inputs)
after_call info c FunctionCount = c
after_call info c (TypeSize m index) =
    with_failed c (with_met c.failed (size_of info c.inputs.type_inputs m index.0).met)
after_call info c (FormatFunction name m index) =
    with_failed c (signature_run info c.inputs.type_inputs m name.now index.0 c.failed).failed
after_call info c (FormatId m index) =
    with_failed c (id_run info c.inputs.type_inputs m index.0 c.failed).failed

-- a context after several calls
abbrev pub after_calls : {P : Type 0} → (P → ProviderInfos) → ContextState P → List Call → ContextState P
after_calls info c [] = c
after_calls info c (call ∷ calls) = after_calls info (after_call info c call) calls

-- the answers to a list of calls, one for each
abbrev pub answers_to : {P : Type 0} → (P → ProviderInfos) → ContextState P → List Call → List AnswerView
answers_to info c [] = []
answers_to info c (call ∷ calls) = answer_to info c call ∷ answers_to info (after_call info c call) calls

-- a list of answers, to which answers with these models were appended
pub record Appends (before after : List Answer) (wanted : List AnswerView) : Type 0 where
  pub appended : List Answer
  pub is : after ≡ before ++ appended
  pub shown : map answer_view appended ≡ wanted

-- a context and a list of answers after an allocation failure: some first calls are answered, and the one after them
-- counts as not made
pub record StopsEarly {P : Type 0} (info : P → ProviderInfos) (before : ContextState P) (calls : List Call)
    (answers answers' : List Answer) (after : ContextState P) : Type 0 where
  pub made : List Call
  pub unmade : Call
  pub rest : List Call
  pub split : calls ≡ made ++ unmade ∷ rest
  pub answered : Appends answers answers' (answers_to info before made)
  pub unmade_gains : OnlyGainsBroken info (after_calls info before made) after

-- a context over these records, of which no part has failed
abbrev pub fresh : {P : Type 0} → ContextInputs P → ContextState P
fresh s = record { inputs = s; failed = []; code_failed = [] }

-- the model of an answer, unless it is an error
abbrev pub successful : AnswerView → Option AnswerView
successful (FramesView frames) = option_map (λ f. FramesView (Ok f)) (result_ok frames)
successful (TextView text) = option_map (λ t. TextView (Ok t)) (result_ok text)
successful other = Some other
