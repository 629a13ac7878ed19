-- The text of a report by the answers to a list of calls.
use Rattle.std.specs.Prelude.{ℕ, List, [], ◌∷◌, ◌++◌, Result, Ok}
use Rattle.pdb_errors.specs.declared.error.Error.{Error}
use Rattle.pdb_errors.specs.Outcomes.{and_then}
use Rattle.pdb_addr2line.specs.Calls.{AnswerView, FunctionView, FramesView, FunctionsView}
use Rattle.pdb_report_lib.specs.declared.reports.Command.{Command}
use Rattle.pdb_report_lib.specs.declared.reports.Command.TheVariants.{Names, Frames}
use Rattle.pdb_report_lib.specs.declared.reports.Command.TheVariants as wanted
use Rattle.pdb_report_lib.specs.PrintedFrames.{frames_text}
use Rattle.pdb_report_lib.specs.PrintedLines.{names_line, list_text}

-- the text of an answer about an address, or its error; reports never show sizes, counts or signatures
abbrev pub answer_text : ℕ → AnswerView → Result (List ℕ) Error
answer_text address (FunctionView function) = Ok (names_line address function)
answer_text address (FramesView frames) = and_then frames (λ found. Ok (frames_text address found))
answer_text address (FunctionsView functions) = Ok (list_text functions)
answer_text address other = Ok []

-- the texts of answers, each with its address, in order; or the first error
abbrev pub texts_of_answers : List ℕ → List AnswerView → Result (List ℕ) Error
texts_of_answers (address ∷ addresses) (answer ∷ answers) =
    and_then (answer_text address answer) (λ text.
    and_then (texts_of_answers addresses answers) (λ texts.
    Ok (text ++ texts)))
texts_of_answers addresses answers = Ok []

-- the addresses of the answers of a report, by its command; a list has no address and one answer
abbrev pub answer_addresses : Command → List ℕ → List ℕ
answer_addresses Names addresses = addresses
answer_addresses Frames addresses = addresses
answer_addresses wanted.List addresses = 0 ∷ []
