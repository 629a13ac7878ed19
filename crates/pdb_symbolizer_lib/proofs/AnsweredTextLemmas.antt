-- Texts that answer over a part of a file's records, and over all.
use Rattle.std.proofs.Common.{◌≡◌, refl, subst, ℕ, Bool, true, false, List, [], ◌∷◌}
use Rattle.std.specs.Prelude.{Option, Some, None, Ok, not, ◌&&◌}
use Rattle.std.specs.List.{cons_option, filter_map}
use Rattle.std.specs.Option.{option_map_or}
use Rattle.pdb_records.specs.Records.{Records}
use Rattle.pdb_types.specs.declared.flags.TypeFormatterFlags.{TypeFormatterFlags}
use Rattle.pdb_frames.specs.Frame.{FramesInfo}
use Rattle.pdb_msf.specs.MsfLayout.{IfFile}
use Rattle.pdb_container.specs.PdbFile.{records_of}
use Rattle.pdb_repairs.specs.Repaired.{repaired}
use Rattle.pdb_addr2line.specs.ContextData.{context_of}
use Rattle.pdb_addr2line.specs.ContextInputs.{ContextInputs}
use Rattle.pdb_known.specs.Known.{Known}
use Rattle.pdb_session.specs.FileParts.{IsPartOfFile}
use Rattle.pdb_session.specs.Session.{SameFile, SessionFile, needs, needs_none}
use Rattle.pdb_answer_printer.specs.InputLine.{Question, Target, AtAddress, OfSymbol, AtNone}
use Rattle.pdb_answer_printer.specs.declared.input_line.Sort.{Sort}
use Rattle.pdb_answer_printer.specs.declared.input_line.Sort.TheVariants.{Code, Data, Frame}
use Rattle.pdb_symbolizer_lib.specs.AnsweredRequests.{AnswersText, AreFrames, AreFramesAt, AreFramesOfFile}
use Rattle.pdb_symbolizer_lib.specs.AnsweredRequests.{AreFramesOver}
use Rattle.pdb_symbolizer_lib.specs.AnsweredRequests.{IsAnswer, IsAnswerBy, asked_address, asks_more, code_address}
use Rattle.pdb_symbolizer_lib.specs.AnsweredRequests.{question_by, scanned_frames}
use Rattle.pdb_symbolizer_lib.specs.AnswersInOrder.{AnswerEach}
use Rattle.pdb_symbolizer_input.specs.ImageBases.{relative}
use Rattle.pdb_symbolizer_lib.specs.declared.questions.Questions.{Questions}

-- frames that are right at an address in one sense are right in another
frames_too : (right others : ℕ → Option FramesInfo → Type 0) (address : Option ℕ) (found : Option FramesInfo)
    → ((at : ℕ) → address ≡ Some at → right at found → others at found) → AreFrames right address found
    → AreFrames others address found
frames_too right others None found too are = are
frames_too right others (Some at) found too are = too at refl are

-- so is the answer of an address of code
answer_too : (questions : Questions) (question : Question) (right others : ℕ → Option FramesInfo → Type 0)
    (address : Option ℕ) (text : List ℕ)
    → ((at : ℕ) (found : Option FramesInfo) → address ≡ Some at → right at found → others at found)
    → IsAnswer questions question right address text → IsAnswer questions question others address text
answer_too questions question right others address text too answer = record {
  named = answer.named;
  sources = answer.sources;
  urls = answer.urls;
  is = answer.is;
  frames = (
    answer.frames.0,
    (
      answer.frames.1.0,
      frames_too right others address answer.frames.0 (λ at is. too at answer.frames.0 is) answer.frames.1.1,
    ),
  );
}

-- so is the answer of a request
request_too : (sort : Sort) (target : Target) (questions : Questions) (question : Question)
    (right others : ℕ → Option FramesInfo → Type 0) (text : List ℕ)
    → ((at : ℕ) (found : Option FramesInfo) → code_address sort target (relative questions.image_base) ≡ Some at
    → right at found → others at found)
    → IsAnswerBy sort target questions question right text → IsAnswerBy sort target questions question others text
request_too Code (AtAddress given) questions question right others text too answer =
    answer_too questions question right others (relative questions.image_base given) text too answer
request_too Code (OfSymbol name) questions question right others text too answer = answer
request_too Code (AtNone lack) questions question right others text too answer = answer
request_too Data target questions question right others text too answer = answer
request_too Frame target questions question right others text too answer = answer

-- so is the answer of a text
pub text_too : (questions : Questions) (right others : ℕ → Option FramesInfo → Type 0) (asked text : List ℕ)
    → ((at : ℕ) (found : Option FramesInfo) → asked_address questions asked ≡ Some at
    → right at found → others at found)
    → AnswersText questions right asked text → AnswersText questions others asked text
text_too questions right others asked text too answer =
    let question = question_by questions asked in
    request_too question.sort question.target questions question right others text too answer

-- where nothing is still to be read for an answer, nothing is for its address
enough_at : (known : Known) (address : Option ℕ) (at : ℕ) → option_map_or (needs known) address false ≡ false
    → address ≡ Some at → needs known at ≡ false
enough_at known address at enough is =
    subst (λ (address : Option ℕ). option_map_or (needs known) address false ≡ false) is enough

-- where nothing is still to be read for the answer of a text, it is right over all records of which a part was read
pub text_over : (known : Known) (flags : TypeFormatterFlags) (questions : Questions) (asked text : List ℕ)
    → asks_more known questions asked ≡ false → AnswersText questions (AreFramesAt known flags) asked text
    → AnswersText questions (AreFramesOver known flags) asked text
text_over known flags questions asked text enough answer =
    text_too questions (AreFramesAt known flags) (AreFramesOver known flags) asked text
    (λ at found is frames. frames (enough_at known (asked_address questions asked) at enough is)) answer

-- frames that are right over all records of which a part was read are those of the file of which that is a part
frames_of_file : (bytes : Option (List ℕ)) (file_length : ℕ) (known : Known) (flags : TypeFormatterFlags) (at : ℕ)
    (found : Option FramesInfo) → IsPartOfFile known bytes file_length → AreFramesOver known flags at found
    → IfFile bytes file_length (λ file. (whole : Records) (inputs : ContextInputs Records)
    → records_of file ≡ Ok whole → context_of flags (repaired whole) ≡ Ok inputs
    → found ≡ scanned_frames inputs at)
frames_of_file None file_length known flags at found part frames = tt
frames_of_file (Some file) file_length known flags at found part frames = λ fits whole inputs is made.
    frames (repaired whole) inputs (part fits whole is) made

-- so is a text
pub text_of_file : (session : SessionFile) (known : Known) (flags : TypeFormatterFlags) (questions : Questions)
    (asked text : List ℕ) → IsPartOfFile known session.bytes session.file_length
    → AnswersText questions (AreFramesOver known flags) asked text
    → AnswersText questions (AreFramesOfFile session flags) asked text
text_of_file session known flags questions asked text part answer =
    text_too questions (AreFramesOver known flags) (AreFramesOfFile session flags) asked text
    (λ at found is frames. frames_of_file session.bytes session.file_length known flags at found part frames) answer

-- a part of a session's file is one of the same file
pub part_of_same : (before after : SessionFile) (known : Known) → SameFile before after
    → IsPartOfFile known after.bytes after.file_length → IsPartOfFile known before.bytes before.file_length
part_of_same before after known same part =
    subst (λ (bytes : Option (List ℕ)). IsPartOfFile known bytes before.file_length) same.0
    (subst (λ (file_length : ℕ). IsPartOfFile known after.bytes file_length) same.1 part)

-- where nothing is still to be read for several addresses, nothing is for the first, and for those after it
none_first : (known : Known) (address : Option ℕ) (addresses : List ℕ)
    → needs_none known (cons_option address addresses) ≡ true
    → (option_map_or (needs known) address false ≡ false) × (needs_none known addresses ≡ true)
none_first known None addresses none = (refl, none)
none_first known (Some at) addresses none = by_test (needs known at) refl none where
  by_test : (test : Bool) → needs known at ≡ test → (not (needs known at) && needs_none known addresses) ≡ true
      → (needs known at ≡ false) × (needs_none known addresses ≡ true)
  by_test true is none = absurd (cc)
  by_test false is none = (is, (rw is at none))

-- where nothing is still to be read for what some words ask for, the answers of these words are right over all records
-- of which a part was read
pub words_over : (known : Known) (flags : TypeFormatterFlags) (questions : Questions) (words texts : List (List ℕ))
    → needs_none known (filter_map (asked_address questions) words) ≡ true
    → AnswerEach (AnswersText questions (AreFramesAt known flags)) words texts
    → AnswerEach (AnswersText questions (AreFramesOver known flags)) words texts
words_over known flags questions [] [] none each = tt
words_over known flags questions [] (text ∷ texts) none each = absurd each
words_over known flags questions (word ∷ words) [] none each = absurd each
words_over known flags questions (word ∷ words) (text ∷ texts) none each =
    let both = none_first known (asked_address questions word) (filter_map (asked_address questions) words) none in (
      text_over known flags questions word text both.0 each.0,
      words_over known flags questions words texts both.1 each.1,
    )
