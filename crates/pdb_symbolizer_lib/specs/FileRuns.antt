-- What a run over one file prints.
use Rattle.std.specs.Prelude.{◌≡◌, ℕ, List, [], ◌∷◌, map, Option, option_map, Result, IsErr, ◌⊎◌}
use Rattle.std.specs.Borrow.{Bor}
use Rattle.std.specs.Io.KnownBytes.{Keeps}
use Rattle.pdb_records.specs.Records.{Records}
use Rattle.pdb_session.specs.Session.{SessionFile}
use Rattle.pdb_symbolizer_lib.specs.AnsweredRequests.{AnswersText, AreFramesOfFile}
use Rattle.pdb_symbolizer_input.specs.NameOptions.{flags_of}
use Rattle.pdb_symbolizer_lib.specs.AnswersInOrder.{AnswersAllLines, AnswersInOrder, words_text}
use Rattle.pdb_symbolizer_lib.specs.InputLines.{asked_lines}
use Rattle.pdb_symbolizer_input.specs.ImageBases.{image_base_of}
use Rattle.pdb_symbolizer_lib.specs.PublicNames.{function_name, known_name}
use Rattle.pdb_symbolizer_input.specs.declared.options.Options.{Options}
use Rattle.pdb_symbolizer_lib.specs.declared.questions.Questions.{Questions}
use Rattle.pdb_source_urls.specs.SourceUrls.{Urls}

-- questions fit the options: they have the file as it was named, these URLs of source files, the image base of the
-- program, and the public names of these records if functions are renamed by them
pub record AskOf (options : Options) (path : List ℕ) (source_urls : Urls) (base : Option ℕ) (records : Records)
    (questions : Questions) : Type 0 where
  pub given : questions.options.now ≡ options
  pub named : questions.file.now ≡ path
  pub urls : questions.source_urls.now ≡ source_urls
  pub loaded : questions.image_base ≡ image_base_of options base
  pub names : (start : ℕ) → known_name questions.names.now start ≡ function_name options records start

-- a text answers a request, by the frames over all repaired records of a session's file
abbrev pub AnswersOfFile : Questions → SessionFile → List ℕ → List ℕ → Type 0
AnswersOfFile questions session =
    AnswersText questions (AreFramesOfFile session (flags_of questions.options.now.printer.names))

-- all requests are answered in order: the words of the command line, or without any the lines of the input
abbrev pub AnswersAsked : {A E : Type 0} → List (Bor (List ℕ)) → Questions → SessionFile → Option (List ℕ)
    → Result A E → Option (List ℕ) → Option (List ℕ) → Type 0
AnswersAsked [] questions session input result old new =
    AnswersAllLines (AnswersOfFile questions session) questions.options.now.printer.style
    (option_map asked_lines input) result old new
AnswersAsked (word ∷ words) questions session input result old new =
    AnswersInOrder (AnswersOfFile questions session) (words_text questions.options.now.printer.style)
    (map (λ word. word.now) (word ∷ words)) result old new

-- a run over a file answers the requests as the options say; or it ends earlier, and prints nothing
abbrev pub RunsOver : {A E : Type 0} → Options → List ℕ → Urls → Option ℕ → SessionFile → Option (List ℕ)
    → Result A E → Option (List ℕ) → Option (List ℕ) → Type 0
RunsOver options path urls base session input result old new =
    ((questions : Questions) × (AskOf options path urls base session.known.records questions
    × AnswersAsked options.addresses.items questions session input result old new))
    ⊎ (IsErr result × Keeps old new)
