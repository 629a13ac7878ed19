-- The texts that a run prints for its requests, in order.
use Rattle.std.specs.Prelude.{◌≡◌, Bool, false, ℕ, List, [], ◌∷◌, ◌++◌, codes, Option, Some, IfSome, Result}
use Rattle.std.specs.Prelude.{MatchResult}
use Rattle.std.specs.List.{flat_map}
use Rattle.std.specs.Io.KnownBytes.{Appends}
use Rattle.pdb_answer_printer.specs.declared.printer_options.Style.{Style}
use Rattle.pdb_answer_printer.specs.declared.printer_options.Style.TheVariants.{Json}
use Rattle.pdb_symbolication.specs.JsonObjects.{comma_before}
use Rattle.pdb_symbolication.specs.Writes.{AppendsBeginning}

-- each text answers the request at its position
abbrev pub AnswerEach : (List ℕ → List ℕ → Type 0) → List (List ℕ) → List (List ℕ) → Type 0
AnswerEach answers [] [] = Unit {0}
AnswerEach answers (asked ∷ more) (text ∷ texts) = answers asked text × AnswerEach answers more texts
AnswerEach answers asked texts = ⊥

-- what is printed of the answer to a line: in JSON it ends with a newline
abbrev pub line_text : Style → List ℕ → List ℕ
line_text Json text = text ++ codes "\n"
line_text style text = text

-- what is printed of the answers to lines
abbrev pub lines_text : Style → List (List ℕ) → List ℕ
lines_text style texts = flat_map (line_text style) texts

-- the text before all answers to the words of a command line: in JSON they are an array
abbrev pub list_start : Style → List ℕ
list_start Json = codes "["
list_start style = []

-- the text before one of these answers: in JSON a comma, unless it is the first
abbrev pub separator : Style → Bool → List ℕ
separator Json first = comma_before first
separator style first = []

-- the text after all answers
abbrev pub list_end : Style → List ℕ
list_end Json = codes "]\n"
list_end style = []

-- the answers after the first, each with its separator
abbrev pub words_after : Style → List (List ℕ) → List ℕ
words_after style texts = flat_map (λ text. separator style false ++ text) texts

-- the answers to all words, in order
abbrev pub words_listed : Style → List (List ℕ) → List ℕ
words_listed style [] = []
words_listed style (text ∷ texts) = text ++ words_after style texts

-- all that is printed for the words of a command line: in JSON one array on a line
abbrev pub words_text : Style → List (List ℕ) → List ℕ
words_text style texts = list_start style ++ (words_listed style texts ++ list_end style)

-- all requests are answered: the texts of the answers were written, in this form
pub record Answered (answers : List ℕ → List ℕ → Type 0) (form : List (List ℕ) → List ℕ) (asked : List (List ℕ))
    (old new : Option (List ℕ)) : Type 0 where
  pub texts : List (List ℕ)
  pub each : AnswerEach answers asked texts
  pub written : Appends old new (form texts)

-- the first requests are answered, and a beginning of the texts of these answers was written
pub record AnsweredFirst (answers : List ℕ → List ℕ → Type 0) (form : List (List ℕ) → List ℕ)
    (asked : List (List ℕ)) (old new : Option (List ℕ)) : Type 0 where
  pub first : List (List ℕ)
  pub left : List (List ℕ)
  pub order : first ++ left ≡ asked
  pub texts : List (List ℕ)
  pub each : AnswerEach answers first texts
  pub written : AppendsBeginning old new (form texts)

-- requests are answered in order: all of them, or the first ones if the run ends early
abbrev pub AnswersInOrder : {A E : Type 0} → (List ℕ → List ℕ → Type 0) → (List (List ℕ) → List ℕ)
    → List (List ℕ) → Result A E → Option (List ℕ) → Option (List ℕ) → Type 0
AnswersInOrder answers form asked result old new =
    MatchResult result (λ _. Answered answers form asked old new) (λ _. AnsweredFirst answers form asked old new)

-- lines were taken from the front of the input, and answered; if the input isn't known, some lines were
pub record AnsweredLines (answers : List ℕ → List ℕ → Type 0) (style : Style) (known left : Option (List (List ℕ)))
    (old new : Option (List ℕ)) : Type 0 where
  pub lines : List (List ℕ)
  pub taken : IfSome known (λ all. (rest : List (List ℕ)) × ((left ≡ Some rest) × (lines ++ rest ≡ all)))
  pub answered : Answered answers (lines_text style) lines old new

-- the first lines are answered, if the run ends early; if the input isn't known, some lines are
pub record AnsweredFirstLines (answers : List ℕ → List ℕ → Type 0) (style : Style) (known : Option (List (List ℕ)))
    (old new : Option (List ℕ)) : Type 0 where
  pub lines : List (List ℕ)
  pub all : IfSome known (λ all. lines ≡ all)
  pub answered : AnsweredFirst answers (lines_text style) lines old new

-- lines are answered in order, up to those that are left; or the first ones, if the run ends early
abbrev pub AnswersLines : {A E : Type 0} → (List ℕ → List ℕ → Type 0) → Style → Option (List (List ℕ))
    → Option (List (List ℕ)) → Result A E → Option (List ℕ) → Option (List ℕ) → Type 0
AnswersLines answers style known left result old new =
    MatchResult result (λ _. AnsweredLines answers style known left old new)
    (λ _. AnsweredFirstLines answers style known old new)

-- all lines are answered; if the input isn't known, some lines are
pub record AnsweredAllLines (answers : List ℕ → List ℕ → Type 0) (style : Style) (known : Option (List (List ℕ)))
    (old new : Option (List ℕ)) : Type 0 where
  pub lines : List (List ℕ)
  pub all : IfSome known (λ all. lines ≡ all)
  pub answered : Answered answers (lines_text style) lines old new

-- all lines are answered in order, or the first ones if the run ends early
abbrev pub AnswersAllLines : {A E : Type 0} → (List ℕ → List ℕ → Type 0) → Style → Option (List (List ℕ))
    → Result A E → Option (List ℕ) → Option (List ℕ) → Type 0
AnswersAllLines answers style known result old new =
    MatchResult result (λ _. AnsweredAllLines answers style known old new)
    (λ _. AnsweredFirstLines answers style known old new)
