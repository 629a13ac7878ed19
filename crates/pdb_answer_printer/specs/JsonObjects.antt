-- The JSON object of an answer, whose members are in the order of their names.
use Rattle.std.specs.Prelude.{ℕ, List, [], ◌∷◌, ◌++◌, codes}
use Rattle.std.specs.Fmt.{decimal}
use Rattle.pdb_frames.specs.Frame.{FrameInfo}
use Rattle.pdb_symbolication.specs.JsonTexts.{quoted}
use Rattle.pdb_answer_printer.specs.FrameNames.{function_of, file_of, line_of}
use Rattle.pdb_answer_printer.specs.AnswerLines.{hexadecimal}
use Rattle.pdb_answer_printer.specs.SourceTexts.{FrameSource, first_source, later_sources}
use Rattle.pdb_answer_printer.specs.InputLine.{Question, Target, AtAddress, OfSymbol, AtNone}
use Rattle.pdb_answer_printer.specs.declared.printer_options.NameStyle.{NameStyle}
use Rattle.pdb_answer_printer.specs.declared.printer_options.NameStyle.TheVariants as names
use Rattle.pdb_answer_printer.specs.declared.printer_options.PrinterOptions.{PrinterOptions}
use Rattle.pdb_answer_printer.specs.declared.input_line.Sort.{Sort}
use Rattle.pdb_answer_printer.specs.declared.input_line.Sort.TheVariants.{Code, Data, Frame}

-- the member with the address, if the target is one
abbrev pub address_member : Target → List ℕ
address_member (AtAddress given) = codes "\"Address\":\"" ++ (hexadecimal given ++ codes "\",")
address_member target = []

-- the member with the name of the symbol, if the target is one
abbrev pub symbol_member : Target → List ℕ
symbol_member (OfSymbol name) = codes ",\"SymName\":" ++ quoted name
symbol_member target = []

-- the start of an object
unfoldable pub object_front : Target → List ℕ
object_front target = codes "{" ++ address_member target

-- the members with the names of the file and of the symbol
unfoldable pub file_members : Question → List ℕ
file_members question =
    codes "\"ModuleName\":" ++ (quoted question.file ++ symbol_member question.target)

-- an object: the address, members between it and the file, the file, the symbol, and members after it
abbrev pub object : Question → List ℕ → List ℕ → List ℕ
object question members later =
    object_front question.target ++ (members ++ (file_members question ++ (later ++ codes "}")))

-- a member with this text after its name, and nothing if the text is empty
abbrev pub optional_member : List ℕ → List ℕ → List ℕ
optional_member name [] = []
optional_member name (character ∷ characters) = name ++ quoted (character ∷ characters)

-- the lines and the URL of the source file, each if there is one
abbrev pub source_members : FrameSource → List ℕ
source_members source =
    optional_member (codes ",\"Source\":") source.lines ++ optional_member (codes ",\"SourceUrl\":") source.url

-- a frame with this file, function and line, and what is printed of its source file. The members for the start of the
-- function are empty or 0
unfoldable pub frame_object : List ℕ → List ℕ → ℕ → FrameSource → List ℕ
frame_object file function line source =
    codes "{\"Column\":0,\"Discriminator\":0,\"FileName\":" ++ (quoted file
    ++ (codes ",\"FunctionName\":" ++ (quoted function
    ++ (codes ",\"Line\":" ++ (decimal line
    ++ (source_members source
    ++ codes ",\"StartAddress\":\"\",\"StartFileName\":\"\",\"StartLine\":0}"))))))

-- the name of a frame's function: empty if it isn't known or no names are wanted
abbrev pub json_function : NameStyle → FrameInfo → List ℕ
json_function names.None frame = []
json_function style frame = function_of [] frame

-- a frame
abbrev pub json_frame : PrinterOptions → FrameInfo → FrameSource → List ℕ
json_frame options frame source =
    frame_object (file_of options [] frame) (json_function options.names frame) (line_of frame) source

-- frames from inside to outside, the first after this text, separated by commas
abbrev pub json_frames : PrinterOptions → List ℕ → List FrameInfo → List FrameSource → List ℕ
json_frames options start [] sources = []
json_frames options start (frame ∷ frames) sources =
    start ++ (json_frame options frame (first_source sources)
    ++ json_frames options (codes ",") frames (later_sources sources))

-- an unknown frame
abbrev pub no_frame : List ℕ
no_frame = frame_object [] [] 0 (first_source [])

-- the frames, or an unknown frame if there are none
abbrev pub found_frames : PrinterOptions → List FrameInfo → List FrameSource → List ℕ
found_frames options [] sources = no_frame
found_frames options (frame ∷ frames) sources = json_frames options [] (frame ∷ frames) sources

-- the member that has the frames
unfoldable pub frames_member : List ℕ → List ℕ
frames_member frames = codes ",\"Symbol\":[" ++ (frames ++ codes "]")

-- the answer for an address of code
abbrev pub json_answer : PrinterOptions → Question → List FrameInfo → List FrameSource → List ℕ
json_answer options question frames sources =
    object question [] (frames_member (found_frames options frames sources))

-- the answer for a request about which nothing is known: an unknown frame for code at an address and for a text that is
-- no request, no locations for a symbol, and an empty list for data or a frame's variables
abbrev pub json_unknown_of : Question → Sort → Target → List ℕ
json_unknown_of question sort (AtNone lack) = object question [] (frames_member no_frame)
json_unknown_of question Code (AtAddress given) = object question [] (frames_member no_frame)
json_unknown_of question Code (OfSymbol name) = object question (codes "\"Loc\":[],") []
json_unknown_of question Data target =
    object question (codes "\"Data\":{\"Name\":\"\",\"Size\":\"0x0\",\"Start\":\"0x0\"},") []
json_unknown_of question Frame target = object question (codes "\"Frame\":[],") []

-- the answer for a request about which nothing is known, by its sort and target
abbrev pub json_unknown : Question → List ℕ
json_unknown question = json_unknown_of question question.sort question.target

-- the member with the reason why a file can't be opened
unfoldable pub error_member : List ℕ → List ℕ
error_member why = codes "\"Error\":{\"Message\":" ++ (quoted why ++ codes "},")

-- the answer for a request whose file can't be opened, with the reason
abbrev pub json_error : Question → List ℕ → List ℕ
json_error question why = object question (error_member why) []
