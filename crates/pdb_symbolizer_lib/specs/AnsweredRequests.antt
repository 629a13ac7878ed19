-- What is printed for a request, by the frames that are right for its address.
use Rattle.std.specs.Prelude.{◌≡◌, ℕ, Bool, false, List, [], Option, Some, None, map, option_map, unwrap_or}
use Rattle.std.specs.Prelude.{Result, Ok, Err}
use Rattle.std.specs.Option.{option_and_then, option_map_or}
use Rattle.pdb_records.specs.Records.{Records}
use Rattle.pdb_errors.specs.declared.error.Error.{Error}
use Rattle.pdb_types.specs.declared.flags.TypeFormatterFlags.{TypeFormatterFlags}
use Rattle.pdb_frames.specs.Frame.{FrameInfo, FramesInfo}
use Rattle.pdb_frames.specs.SourceFiles.{known_text}
use Rattle.pdb_source_urls.specs.SourceUrls.{Urls, url_of}
use Rattle.pdb_msf.specs.MsfLayout.{IfFile}
use Rattle.pdb_container.specs.PdbFile.{records_of}
use Rattle.pdb_repairs.specs.Repaired.{repaired}
use Rattle.pdb_addr2line.specs.ContextData.{context_of}
use Rattle.pdb_addr2line.specs.ContextInputs.{ContextInputs}
use Rattle.pdb_addr2line.specs.Lookups.{frames_at}
use Rattle.pdb_addr2line.specs.NamedFunctions.{named_answer, symbol_name_at}
use Rattle.pdb_known.specs.Known.{IsPartOf, Known, infos_of}
use Rattle.pdb_session.specs.Session.{SessionFile, needs}
use Rattle.pdb_answer_printer.specs.AnswerText.{answer_text, unknown_text}
use Rattle.pdb_answer_printer.specs.FrameNames.{shown_frames}
use Rattle.pdb_answer_printer.specs.InputLineParser.{request_of}
use Rattle.pdb_answer_printer.specs.InputLine.{Question, Target, AtAddress}
use Rattle.pdb_answer_printer.specs.SourceTexts.{FrameSource}
use Rattle.pdb_answer_printer.specs.declared.printer_options.Digits.{Digits}
use Rattle.pdb_answer_printer.specs.declared.input_line.Sort.{Sort}
use Rattle.pdb_answer_printer.specs.declared.input_line.Sort.TheVariants.{Code}
use Rattle.pdb_symbolizer_input.specs.ImageBases.{relative}
use Rattle.pdb_symbolizer_lib.specs.PublicNames.{public_named}
use Rattle.pdb_symbolizer_input.specs.declared.options.FileNaming.{FileNaming}
use Rattle.pdb_symbolizer_input.specs.declared.options.FileNaming.TheVariants as naming
use Rattle.pdb_symbolizer_lib.specs.declared.questions.Questions.{Questions}

-- the file for requests that don't name one; none if each line names its own
abbrev pub file_by : FileNaming → List ℕ → Option (List ℕ)
file_by naming.ByEachLine file = None
file_by named file = Some file

-- the request in a text, for this file
abbrev pub question_in : FileNaming → Digits → List ℕ → List ℕ → Question
question_in named digits file text = request_of text (file_by named file) digits

-- the request in a text, by the options and the file of these questions
abbrev pub question_by : Questions → List ℕ → Question
question_by questions text =
    question_in questions.options.now.naming questions.options.now.digits questions.file.now text

-- the code address of a request, relative to where the program is loaded, if it fits 32 bits
abbrev pub code_address : Sort → Target → (ℕ → Option ℕ) → Option ℕ
code_address Code (AtAddress given) relative = relative given
code_address sort target relative = None

-- the address of the code that a text asks for, relative to where the program is loaded, if it fits 32 bits
abbrev pub asked_address : Questions → List ℕ → Option ℕ
asked_address questions text =
    let question = question_by questions text in
    code_address question.sort question.target (relative questions.image_base)

-- whether the answer to a text needs records that weren't read
abbrev pub asks_more : Known → Questions → List ℕ → Bool
asks_more known questions text = option_map_or (needs known) (asked_address questions text) false

-- the frames of an answer; none if it is refused
abbrev pub frames_or_none : Result (Option FramesInfo) Error → Option FramesInfo
frames_or_none (Ok found) = found
frames_or_none (Err error) = None

-- the frames at an address by a plain scan of records; none if they are refused. A function without another name has
-- its symbol's name
abbrev pub scanned_frames : ContextInputs Records → ℕ → Option FramesInfo
scanned_frames inputs address =
    frames_or_none (named_answer (symbol_name_at infos_of inputs address) (frames_at infos_of inputs address))

-- frames at an address are those over all records, whatever these are, if the known records are a part of them
abbrev pub AreFramesOver : Known → TypeFormatterFlags → ℕ → Option FramesInfo → Type 0
AreFramesOver known flags address found =
    (whole : Records) (inputs : ContextInputs Records) → IsPartOf known whole → context_of flags whole ≡ Ok inputs
    → found ≡ scanned_frames inputs address

-- frames at an address are those over all records, if the answer needs no record that wasn't read
abbrev pub AreFramesAt : Known → TypeFormatterFlags → ℕ → Option FramesInfo → Type 0
AreFramesAt known flags address found = needs known address ≡ false → AreFramesOver known flags address found

-- frames at an address are those over the repaired records of a session's file, if its source says the bytes of the
-- file
abbrev pub AreFramesOfFile : SessionFile → TypeFormatterFlags → ℕ → Option FramesInfo → Type 0
AreFramesOfFile session flags address found = IfFile session.bytes session.file_length (λ file.
    (whole : Records) (inputs : ContextInputs Records) → records_of file ≡ Ok whole
    → context_of flags (repaired whole) ≡ Ok inputs → found ≡ scanned_frames inputs address)

-- frames are right at an address that may be outside of every program; there they are none
abbrev pub AreFrames : (ℕ → Option FramesInfo → Type 0) → Option ℕ → Option FramesInfo → Type 0
AreFrames right None found = found ≡ None
AreFrames right (Some address) found = right address found

-- frames are the right ones at an address, with functions renamed by their public symbols as far as these are known
abbrev pub AreNamedFrames : Questions → (ℕ → Option FramesInfo → Type 0) → Option ℕ → Option FramesInfo → Type 0
AreNamedFrames questions right address named = (found : Option FramesInfo)
    × ((named ≡ option_map (public_named questions.names.now) found) × AreFrames right address found)

-- the URL that a PDB file says of a frame's source file; empty if it says none
abbrev pub frame_url : Urls → FrameInfo → List ℕ
frame_url urls frame = unwrap_or (option_and_then (url_of urls) (known_text frame.file)) []

-- these are printed for frames, and have the URLs of their source files
abbrev pub HaveUrls : Urls → List FrameInfo → List FrameSource → Type 0
HaveUrls urls frames sources = map (λ source. source.url) sources ≡ map (frame_url urls) frames

-- a text is the answer for a code address: the frames that are right there, each with the URL of its source file and
-- the source lines around it
pub record IsAnswer (questions : Questions) (question : Question) (right : ℕ → Option FramesInfo → Type 0)
    (address : Option ℕ) (text : List ℕ) : Type 0 where
  pub named : Option FramesInfo
  pub sources : List FrameSource
  pub urls : HaveUrls questions.source_urls.now (shown_frames questions.options.now.printer named) sources
  pub is : text ≡ answer_text questions.options.now.printer question
      (shown_frames questions.options.now.printer named) sources
  pub frames : AreNamedFrames questions right address named

-- a text is the answer to a request: for a code address the frames there, otherwise that nothing is known
abbrev pub IsAnswerBy : Sort → Target → Questions → Question → (ℕ → Option FramesInfo → Type 0) → List ℕ
    → Type 0
IsAnswerBy Code (AtAddress given) questions question right text =
    IsAnswer questions question right (relative questions.image_base given) text
IsAnswerBy sort target questions question right text =
    text ≡ unknown_text questions.options.now.printer question

-- a text is the answer to a parsed request
abbrev pub AnswersQuestion : Questions → (ℕ → Option FramesInfo → Type 0) → Question → List ℕ → Type 0
AnswersQuestion questions right question text =
    IsAnswerBy question.sort question.target questions question right text

-- the code address that a text asks for
abbrev pub AnswersText : Questions → (ℕ → Option FramesInfo → Type 0) → List ℕ → List ℕ → Type 0
AnswersText questions right asked text = AnswersQuestion questions right (question_by questions asked) text
