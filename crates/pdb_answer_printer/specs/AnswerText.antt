-- The text of an answer.
use Rattle.std.specs.Prelude.{ℕ, List, [], ◌∷◌, ◌++◌}
use Rattle.pdb_frames.specs.Frame.{FrameInfo}
use Rattle.pdb_answer_printer.specs.JsonObjects.{json_answer, json_unknown, json_error}
use Rattle.pdb_answer_printer.specs.AnswerLines.{address_line, frames_lines, unknown_lines, answer_end}
use Rattle.pdb_answer_printer.specs.InputLine.{Question}
use Rattle.pdb_answer_printer.specs.SourceTexts.{FrameSource}
use Rattle.pdb_answer_printer.specs.declared.printer_options.PrinterOptions.{PrinterOptions}
use Rattle.pdb_answer_printer.specs.declared.printer_options.Style.{Style}
use Rattle.pdb_answer_printer.specs.declared.printer_options.Style.TheVariants.{Json}

-- the text of an answer: the address, these lines, and the end of the answer
abbrev pub answer_of_lines : PrinterOptions → Question → List ℕ → List ℕ
answer_of_lines options question lines =
    address_line options question.target ++ (lines ++ answer_end options.style)

-- the lines of the frames, or those of an unknown answer if there are no frames
abbrev pub found_lines : PrinterOptions → Question → List FrameInfo → List FrameSource → List ℕ
found_lines options question [] sources = unknown_lines options question.sort question.target
found_lines options question (frame ∷ frames) sources = frames_lines options [] (frame ∷ frames) sources

-- the answer for an address of code, in this style
abbrev pub answer_by : Style → PrinterOptions → Question → List FrameInfo → List FrameSource → List ℕ
answer_by Json options question frames sources = json_answer options question frames sources
answer_by style options question frames sources =
    answer_of_lines options question (found_lines options question frames sources)

-- the answer for an address of code, with its frames, each with the URL and lines of its source file
abbrev pub answer_text : PrinterOptions → Question → List FrameInfo → List FrameSource → List ℕ
answer_text options question frames sources = answer_by options.style options question frames sources

-- the answer for a request about which nothing is known, in this style
abbrev pub unknown_by : Style → PrinterOptions → Question → List ℕ
unknown_by Json options question = json_unknown question
unknown_by style options question =
    answer_of_lines options question (unknown_lines options question.sort question.target)

-- the answer for a request about which nothing is known
abbrev pub unknown_text : PrinterOptions → Question → List ℕ
unknown_text options question = unknown_by options.style options question

-- the answer for a request whose file can't be opened, with the reason
abbrev pub error_text : Question → List ℕ → List ℕ
error_text question why = json_error question why
