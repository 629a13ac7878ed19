-- Runs over one file.
use Rattle.std.proofs.Common.{◌≡◌, ◌∙◌, refl, subst, sym, ℕ, List, [], ◌∷◌, map, length, arith}
use Rattle.std.proofs.Common.{true, false, Bor, Result, Ok, Err}
use Rattle.std.proofs.lemmas.Bool.Decides.{nat_tests}
use Rattle.std.specs.Prelude.{◌≢◌, ◌==◌, Option, Some, None, option_map, IfSome}
use Rattle.pdb_session.specs.Session.{SessionFile}
use Rattle.pdb_answer_printer.specs.declared.printer_options.Style.{Style}
use Rattle.pdb_symbolizer_lib.specs.AnswersInOrder.{AnswersAllLines, AnswersInOrder, words_text}
use Rattle.pdb_symbolizer_lib.specs.FileRuns.{AnswersAsked, AnswersOfFile}
use Rattle.pdb_symbolizer_lib.specs.InputLines.{asked_lines}
use Rattle.pdb_symbolizer_lib.specs.declared.questions.Questions.{Questions}

-- a list without a length is empty
pub is_empty_list : {X : Type 0} (xs : List X) → (length xs == 0) ≡ true → xs ≡ []
is_empty_list [] none = refl
is_empty_list (x ∷ xs) none =
    let some : (length (x ∷ xs) == 0) ≡ false = grind (arith, nat_tests) in
    let no : true ≡ false = sym none ∙ some in absurd (cc)

-- a list with a length is not
pub is_some_list : {X : Type 0} (xs : List X) → (length xs == 0) ≡ false → xs ≢ []
is_some_list [] some = absurd (cc)
is_some_list (x ∷ xs) some = λ none. absurd (cc)

-- lines are known as those of the input
lines_of_input : {A E : Type 0} (answers : List ℕ → List ℕ → Type 0) (style : Style) (input : Option (List ℕ))
    (queue : Option (List (List ℕ))) (result : Result A E) (old new : Option (List ℕ))
    → IfSome input (λ bytes. queue ≡ Some (asked_lines bytes))
    → AnswersAllLines answers style queue result old new
    → AnswersAllLines answers style (option_map asked_lines input) result old new
lines_of_input answers style None queue (Ok done) old new known all =
    record { lines = all.lines; all = tt; answered = all.answered }
lines_of_input answers style None queue (Err fault) old new known all =
    record { lines = all.lines; all = tt; answered = all.answered }
lines_of_input answers style (Some bytes) queue result old new known all =
    subst (λ queue. AnswersAllLines answers style queue result old new) known all

-- where there are no words, lines are asked for
pub lines_are_asked : {A E : Type 0} (addresses : List (Bor (List ℕ))) (questions : Questions) (session : SessionFile)
    (input : Option (List ℕ)) (queue : Option (List (List ℕ))) (result : Result A E) (old new : Option (List ℕ))
    → addresses ≡ [] → IfSome input (λ bytes. queue ≡ Some (asked_lines bytes))
    → AnswersAllLines (AnswersOfFile questions session) questions.options.now.printer.style queue result old new
    → AnswersAsked addresses questions session input result old new
lines_are_asked [] questions session input queue result old new none known all =
    lines_of_input (AnswersOfFile questions session) questions.options.now.printer.style input queue result old new
    known all
lines_are_asked (word ∷ words) questions session input queue result old new none known all = absurd (cc)

-- where there are words, these are asked for
pub words_are_asked : {A E : Type 0} (addresses : List (Bor (List ℕ))) (questions : Questions) (session : SessionFile)
    (input : Option (List ℕ)) (result : Result A E) (old new : Option (List ℕ)) → addresses ≢ []
    → AnswersInOrder (AnswersOfFile questions session) (words_text questions.options.now.printer.style)
    (map (λ word. word.now) addresses) result old new
    → AnswersAsked addresses questions session input result old new
words_are_asked [] questions session input result old new some all = absurd (some refl)
words_are_asked (word ∷ words) questions session input result old new some all = all
