-- The lines of an answer in the styles of LLVM and GNU.
use Rattle.std.specs.Prelude.{ℕ, List, [], ◌∷◌, ◌++◌, codes, false, if◌then◌else◌}
use Rattle.std.specs.Fmt.{decimal, digits}
use Rattle.pdb_frames.specs.Frame.{FrameInfo}
use Rattle.pdb_answer_printer.specs.FrameNames.{function_of, file_of, line_of}
use Rattle.pdb_answer_printer.specs.SourceTexts.{FrameSource, first_source, later_sources, url_after}
use Rattle.pdb_answer_printer.specs.InputLine.{Target, AtAddress, AtNone}
use Rattle.pdb_answer_printer.specs.declared.printer_options.Detail.{Detail}
use Rattle.pdb_answer_printer.specs.declared.printer_options.Detail.TheVariants.{Brief, Verbose}
use Rattle.pdb_answer_printer.specs.declared.printer_options.NameStyle.{NameStyle}
use Rattle.pdb_answer_printer.specs.declared.printer_options.NameStyle.TheVariants as names
use Rattle.pdb_answer_printer.specs.declared.printer_options.PrinterOptions.{PrinterOptions}
use Rattle.pdb_answer_printer.specs.declared.printer_options.Style.{Style}
use Rattle.pdb_answer_printer.specs.declared.printer_options.Style.TheVariants.{Llvm, Gnu}
use Rattle.pdb_answer_printer.specs.declared.input_line.Sort.{Sort}
use Rattle.pdb_answer_printer.specs.declared.input_line.Sort.TheVariants.{Code, Data, Frame}

-- a number in hexadecimal digits after `0x`
abbrev pub hexadecimal : ℕ → List ℕ
hexadecimal number = codes "0x" ++ digits 16 false number

-- two question marks, for a name or a file that isn't known
abbrev pub unknown : List ℕ
unknown = 63 ∷ 63 ∷ []

-- the address before its answer, if the options ask for it: on a line of its own, or on the line of the answer
abbrev pub address_line : PrinterOptions → Target → List ℕ
address_line options (AtAddress given) =
    if options.address_shown then hexadecimal given ++ (if options.pretty then codes ": " else codes "\n") else []
address_line options target = []

-- the name of a function after this text: on a line of its own, or on the line of the location; empty if no names are
-- wanted
abbrev pub name_line_by : NameStyle → PrinterOptions → List ℕ → List ℕ → List ℕ
name_line_by names.None options start name = []
name_line_by style options start name = start ++ (name ++ (if options.pretty then codes " at " else codes "\n"))

-- the name of a function after this text, in the form that the options choose
abbrev pub name_line : PrinterOptions → List ℕ → List ℕ → List ℕ
name_line options start name = name_line_by options.names options start name

-- file, line and column on one line, in GNU's form without the column; or each on a line of its own. Columns are 0
abbrev pub place_by : Detail → Style → List ℕ → ℕ → List ℕ
place_by Verbose style file line =
    codes "  Filename: " ++ (file ++ (codes "\n  Line: " ++ (decimal line ++ codes "\n  Column: 0")))
place_by Brief Gnu file line = file ++ (codes ":" ++ decimal line)
place_by Brief style file line = file ++ (codes ":" ++ (decimal line ++ codes ":0"))

-- what stands before a URL: a space, or the start of a line of its own
abbrev pub url_start : Detail → List ℕ
url_start Verbose = codes "\n  SourceUrl: "
url_start Brief = codes " "

-- file, line and column in the form that the options choose, and then the URL of the file, if there is one
abbrev pub location : PrinterOptions → List ℕ → ℕ → List ℕ → List ℕ
location options file line url =
    place_by options.detail options.style file line ++ (url_after (url_start options.detail) url ++ codes "\n")

-- the lines of a frame: its function after this text, and its location with this URL
abbrev pub frame_lines : PrinterOptions → List ℕ → FrameInfo → List ℕ → List ℕ
frame_lines options start frame url =
    name_line options start (function_of unknown frame)
    ++ location options (file_of options unknown frame) (line_of frame) url

-- the text before the name of each frame but the innermost: `(inlined by)` if each frame is on one line
abbrev pub outer_start : PrinterOptions → List ℕ
outer_start options = if options.pretty then codes " (inlined by) " else []

-- the lines of frames from inside to outside, the first after this text; each frame has the URL of its source file in
-- its location, and lines of that file after it
abbrev pub frames_lines : PrinterOptions → List ℕ → List FrameInfo → List FrameSource → List ℕ
frames_lines options start [] sources = []
frames_lines options start (frame ∷ frames) sources =
    frame_lines options start frame (first_source sources).url ++ ((first_source sources).lines
    ++ frames_lines options (outer_start options) frames (later_sources sources))

-- the lines of an unknown frame
abbrev pub unknown_frame : PrinterOptions → List ℕ
unknown_frame options = name_line options [] unknown ++ location options unknown 0 []

-- the lines of unknown data: its name, its start and its size, and its place
abbrev pub unknown_data : List ℕ
unknown_data = unknown ++ (codes "\n0 0\n" ++ (unknown ++ (codes ":" ++ (63 ∷ codes "\n"))))

-- the lines if nothing is known: a frame for code and for a text that is no request, three lines for data, and one line
-- for a frame's variables
abbrev pub unknown_lines : PrinterOptions → Sort → Target → List ℕ
unknown_lines options sort (AtNone lack) = unknown_frame options
unknown_lines options Code target = unknown_frame options
unknown_lines options Data target = unknown_data
unknown_lines options Frame target = unknown ++ codes "\n"

-- what follows an answer: an empty line in LLVM's form
abbrev pub answer_end : Style → List ℕ
answer_end Llvm = codes "\n"
answer_end style = []
