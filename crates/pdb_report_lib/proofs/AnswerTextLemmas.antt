-- The text of a report is that of the answers to a list of calls.
use Rattle.std.proofs.Common.{◌≡◌, ◌∙◌, ℕ, List, [], ◌∷◌, ◌++◌, map, refl, sym, ap, append-nil}
use Rattle.std.specs.Prelude.{Option, Result, Ok, Err}
use Rattle.pdb_records.specs.Provided.{ProviderInfos}
use Rattle.pdb_errors.specs.declared.error.Error.{Error}
use Rattle.pdb_errors.specs.Outcomes.{and_then}
use Rattle.pdb_frames.specs.Frame.{FramesInfo}
use Rattle.pdb_addr2line.specs.declared.calls.Call.TheVariants.{FindFunction, FindFrames}
use Rattle.pdb_addr2line.specs.Calls.{FramesView, answers_to, after_frames}
use Rattle.pdb_addr2line.specs.FunctionIter.{after_function, functions_of}
use Rattle.pdb_addr2line.specs.Lookups.{function_at, frames_at, frames_answered, blamed_at, code_failed_after}
use Rattle.pdb_addr2line.specs.ContextInputs.{ContextState}
use Rattle.pdb_report_lib.specs.declared.reports.Command.{Command}
use Rattle.pdb_report_lib.specs.declared.reports.Command.TheVariants.{Names, Frames}
use Rattle.pdb_report_lib.specs.declared.reports.Command.TheVariants as wanted
use Rattle.pdb_report_lib.specs.AnswerTexts.{answer_text, texts_of_answers, answer_addresses}
use Rattle.pdb_report_lib.specs.PrintedFrames.{frames_text}
use Rattle.pdb_report_lib.specs.PrintedLines.{names_line, list_text}
use Rattle.pdb_report_lib.specs.Reports.{report_calls, report_text, function_text, stack_text, addresses_text}
use Rattle.pdb_report_lib.proofs.ReportLemmas.{unrefused}

-- the lines of functions are those of the answers
names_of_answers : {P : Type 0} (info : P → ProviderInfos) (c : ContextState P) (addresses : List ℕ)
    → addresses_text (function_text info c.inputs) addresses
    ≡ texts_of_answers addresses (answers_to info c (map FindFunction addresses))
names_of_answers info c [] = refl
names_of_answers info c (address ∷ addresses) =
    ap (λ (rest : Result (List ℕ) Error). and_then rest
    (λ texts. Ok (names_line address (function_at info c.inputs address) ++ texts)))
    (names_of_answers info (after_function info c address) addresses)

-- a first text and what follows, which are alike where there is a first text
one_more_text : (address : ℕ) (frames : Result (Option FramesInfo) Error) (rest rest' : Result (List ℕ) Error)
    → ((found : Option FramesInfo) → frames ≡ Ok found → rest ≡ rest')
    → and_then (and_then frames (λ found. Ok (frames_text address found)))
    (λ text. and_then rest (λ texts. Ok (text ++ texts)))
    ≡ and_then (answer_text address (FramesView frames)) (λ text. and_then rest' (λ texts. Ok (text ++ texts)))
one_more_text address (Ok found) rest rest' alike =
    ap (λ (more : Result (List ℕ) Error). and_then more (λ texts. Ok (frames_text address found ++ texts)))
    (alike found refl)
one_more_text address (Err e) rest rest' alike = refl

-- the lines of frames are those of the answers
stacks_of_answers : {P : Type 0} (info : P → ProviderInfos) (c : ContextState P) (addresses : List ℕ)
    → addresses_text (stack_text info c.inputs c.code_failed) addresses
    ≡ texts_of_answers addresses (answers_to info c (map FindFrames addresses))
stacks_of_answers info c [] = refl
stacks_of_answers info c (address ∷ addresses) =
    let next = after_frames info c address in
    one_more_text address (frames_answered info c address) _ _ (λ found is.
    let same : code_failed_after info c address ≡ c.code_failed =
    unrefused c.code_failed (blamed_at info c.inputs address) (frames_at info c.inputs address) found is in
    ap (λ code. addresses_text (stack_text info c.inputs code) addresses) (sym same)
    ∙ stacks_of_answers info next addresses)

-- the text of a report is that of the answers
pub text_of_answers : {P : Type 0} (info : P → ProviderInfos) (c : ContextState P) (command : Command)
    (addresses : List ℕ)
    → report_text info c.inputs c.code_failed command addresses
    ≡ texts_of_answers (answer_addresses command addresses) (answers_to info c (report_calls command addresses))
text_of_answers info c Names addresses = names_of_answers info c addresses
text_of_answers info c Frames addresses = stacks_of_answers info c addresses
text_of_answers info c wanted.List addresses = ap Ok (sym (append-nil (list_text (functions_of info c.inputs))))
