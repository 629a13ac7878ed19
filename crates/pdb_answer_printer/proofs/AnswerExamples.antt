-- Texts of answers, as `llvm-symbolizer` and `addr2line` print them, and requests of lines.
use Rattle.std.proofs.Common.{◌≡◌, ℕ, List, [], ◌∷◌, true, false, Bool, refl, codes, ◌++◌}
use Rattle.std.specs.Prelude.{Some, None}
use Rattle.std.specs.Fmt.{digits}
use Rattle.std.specs.Str.{chars, trim_start}
use Rattle.pdb_frames.specs.Frame.{FrameInfo}
use Rattle.pdb_answer_printer.specs.AnswerText.{answer_text, error_text}
use Rattle.pdb_answer_printer.specs.JsonObjects.{frame_object, object_front, file_members, frames_member, error_member}
use Rattle.pdb_answer_printer.specs.AnswerLines.{unknown}
use Rattle.pdb_answer_printer.specs.SourceTexts.{FrameSource}
use Rattle.pdb_answer_printer.specs.InputLineParser.{request_of}
use Rattle.pdb_answer_printer.specs.InputLine.{Question, AtAddress, OfSymbol, AtNone}
use Rattle.pdb_answer_printer.specs.declared.printer_options.Detail.{Detail}
use Rattle.pdb_answer_printer.specs.declared.printer_options.Detail.TheVariants.{Brief, Verbose}
use Rattle.pdb_answer_printer.specs.declared.printer_options.Digits.TheVariants.{Hexadecimal, ByPrefix}
use Rattle.pdb_answer_printer.specs.declared.printer_options.NameStyle.TheVariants.{Signature}
use Rattle.pdb_answer_printer.specs.declared.printer_options.PrinterOptions.{PrinterOptions}
use Rattle.pdb_answer_printer.specs.declared.printer_options.Style.{Style}
use Rattle.pdb_answer_printer.specs.declared.printer_options.Style.TheVariants.{Llvm, Gnu, Json}
use Rattle.pdb_answer_printer.specs.declared.input_line.Lack.TheVariants as lack
use Rattle.pdb_answer_printer.specs.declared.input_line.Sort.TheVariants.{Code, Data}

-- options with the address, on one line or not, and with or without folders
abbrev pub options_of : Style → Detail → (pretty basenames : Bool) → PrinterOptions
options_of style detail pretty basenames = record {
  style = style;
  names = Signature;
  detail = detail;
  inlines = true;
  address_shown = true;
  pretty = pretty;
  basenames = basenames;
}

abbrev pub frame_at : List ℕ → List ℕ → ℕ → FrameInfo
frame_at function file line = record {
  function = Some function;
  file = Some (record { text = file; is_borrowed = true });
  line = Some line;
}

-- a function that is inlined into another
abbrev pub two_frames : List FrameInfo
two_frames =
    frame_at (codes "Point::length") (codes "C:\\shapes.h") 10
    ∷ (frame_at (codes "Picture::draw") (codes "C:\\main.cpp") 29 ∷ [])

abbrev pub asked : Question
asked = record { sort = Code; file = codes "app.exe"; target = AtAddress 4406 }

-- what is printed of a source file
abbrev pub with_source : List ℕ → List ℕ → FrameSource
with_source url lines = record { url = url; lines = lines }

-- each frame on one line
pub pretty_lines : answer_text (options_of Llvm Brief true false) asked two_frames []
    ≡ codes "0x1136: Point::length at C:\\shapes.h:10:0\n (inlined by) Picture::draw at C:\\main.cpp:29:0\n\n"
unfolding digits
pretty_lines = refl

-- without columns and folders
pub lines_of_gnu : answer_text (options_of Gnu Brief false true) asked two_frames []
    ≡ codes "0x1136\nPoint::length\nshapes.h:10\nPicture::draw\nmain.cpp:29\n"
unfolding digits
lines_of_gnu = refl

-- with the lines of the source file of the first
pub verbose_lines :
    answer_text (options_of Llvm Verbose false false) asked two_frames (with_source [] (codes "10 >: {\n") ∷ [])
    ≡ codes "0x1136\nPoint::length\n  Filename: C:\\shapes.h\n  Line: 10\n  Column: 0\n10 >: {\n"
    ++ codes "Picture::draw\n  Filename: C:\\main.cpp\n  Line: 29\n  Column: 0\n\n"
unfolding digits
verbose_lines = refl

-- with the URL of the source file of the first, on its line and on a line of its own
pub lines_with_url :
    answer_text (options_of Llvm Brief true false) asked two_frames (with_source (codes "https://a/b") [] ∷ [])
    ≡ codes "0x1136: Point::length at C:\\shapes.h:10:0 https://a/b\n"
    ++ codes " (inlined by) Picture::draw at C:\\main.cpp:29:0\n\n"
unfolding digits
lines_with_url = refl

pub verbose_lines_with_url :
    answer_text (options_of Llvm Verbose false false) asked two_frames (with_source (codes "https://a/b") [] ∷ [])
    ≡ codes "0x1136\nPoint::length\n  Filename: C:\\shapes.h\n  Line: 10\n  Column: 0\n  SourceUrl: https://a/b\n"
    ++ codes "Picture::draw\n  Filename: C:\\main.cpp\n  Line: 29\n  Column: 0\n\n"
unfolding digits
verbose_lines_with_url = refl

-- an address in no function
pub nothing_known : answer_text (options_of Llvm Brief false false) asked [] []
    ≡ codes "0x1136\n" ++ (unknown ++ (codes "\n" ++ (unknown ++ codes ":0:0\n\n")))
unfolding digits
nothing_known = refl

-- the objects of a frame and of a file that can't be opened
pub object_of_frame :
    answer_text (options_of Json Brief false false) asked (frame_at (codes "f\"") (codes "C:\\a.c") 7 ∷ []) []
    ≡ codes "{\"Address\":\"0x1136\",\"ModuleName\":\"app.exe\",\"Symbol\":["
    ++ (codes "{\"Column\":0,\"Discriminator\":0,\"FileName\":\"C:\\\\a.c\",\"FunctionName\":\"f\\\"\","
    ++ codes "\"Line\":7,\"StartAddress\":\"\",\"StartFileName\":\"\",\"StartLine\":0}]}")
unfolding digits chars frame_object object_front file_members frames_member lib.Utf8.encode
object_of_frame = refl

-- the object of a frame with the lines and the URL of its source file
pub object_with_url :
    answer_text (options_of Json Brief false false) asked (frame_at (codes "f") (codes "a.c") 7 ∷ [])
    (with_source (codes "https://a/b") (codes "7 >: {") ∷ [])
    ≡ codes "{\"Address\":\"0x1136\",\"ModuleName\":\"app.exe\",\"Symbol\":["
    ++ (codes "{\"Column\":0,\"Discriminator\":0,\"FileName\":\"a.c\",\"FunctionName\":\"f\","
    ++ (codes "\"Line\":7,\"Source\":\"7 >: {\",\"SourceUrl\":\"https://a/b\","
    ++ codes "\"StartAddress\":\"\",\"StartFileName\":\"\",\"StartLine\":0}]}"))
unfolding digits chars frame_object object_front file_members frames_member lib.Utf8.encode
object_with_url = refl

pub object_of_error : error_text asked (codes "no such file")
    ≡ codes "{\"Address\":\"0x1136\",\"Error\":{\"Message\":\"no such file\"},\"ModuleName\":\"app.exe\"}"
unfolding digits chars object_front file_members error_member lib.Utf8.encode
object_of_error = refl

-- lines that name their file, and one that doesn't
pub line_of_data : request_of (codes "DATA FILE:\"a b.exe\" 0x10 later") None ByPrefix
    ≡ record { sort = Data; file = codes "a b.exe"; target = AtAddress 16 }
unfolding chars trim_start lib.Utf8.encode
line_of_data = refl

pub line_of_symbol : request_of (codes "app.exe main+4") None ByPrefix
    ≡ record { sort = Code; file = codes "app.exe"; target = OfSymbol (codes "main") }
unfolding chars trim_start lib.Utf8.encode
line_of_symbol = refl

pub line_of_address : request_of (codes "CODE  010") (Some (codes "app.exe")) ByPrefix
    ≡ record { sort = Code; file = codes "app.exe"; target = AtAddress 8 }
unfolding chars trim_start lib.Utf8.encode
line_of_address = refl

pub line_without_number : request_of (codes "app.exe 12x") None Hexadecimal
    ≡ record { sort = Code; file = codes "app.exe"; target = AtNone lack.Number }
unfolding chars trim_start lib.Utf8.encode
line_without_number = refl
