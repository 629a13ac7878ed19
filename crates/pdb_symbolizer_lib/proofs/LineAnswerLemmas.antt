-- Lines that are answered one after the other.
use Rattle.std.proofs.Common.{◌≡◌, ◌∙◌, ap, sym, subst, refl, ℕ, List, [], ◌∷◌, ◌++◌, append_assoc, append-nil, drop}
use Rattle.std.proofs.Common.{Option, Some, None, Result, Ok, Err}
use Rattle.std.specs.Prelude.{IfSome, IsErr}
use Rattle.std.specs.Io.KnownBytes.{Appends}
use Rattle.pdb_answer_printer.specs.declared.printer_options.Style.{Style}
use Rattle.pdb_symbolizer_lib.specs.AnswersInOrder.{AnswerEach, Answered, AnsweredFirst, AnsweredFirstLines}
use Rattle.pdb_symbolizer_lib.specs.AnswersInOrder.{AnsweredLines}
use Rattle.pdb_symbolizer_lib.specs.AnswersInOrder.{AnswersInOrder, AnswersLines, line_text, lines_text}
use Rattle.pdb_symbolizer_lib.specs.InputLines.{BeginWith}
use Rattle.pdb_symbolication.specs.Writes.{Writes}
use Rattle.pdb_symbolizer_lib.proofs.AnswerLemmas.{answered_first_more, answered_more, answered_of_more, first_of_more}
use Rattle.pdb_symbolizer_lib.proofs.AnswerLemmas.{nothing_answered}

-- the text of an answer to a line was written, or a beginning of it
pub line_answered : {A E : Type 0} (answers : List ℕ → List ℕ → Type 0) (result : Result A E) (style : Style)
    (line text : List ℕ) (old new : Option (List ℕ)) → answers line text
    → Writes old new result (line_text style text)
    → AnswersInOrder answers (lines_text style) (line ∷ []) result old new
line_answered answers (Ok done) style line text old new is written = record {
  texts = text ∷ [];
  each = (is, tt);
  written = subst (Appends old new) (sym (append-nil (line_text style text))) written;
}
line_answered answers (Err fault) style line text old new is written = record {
  first = line ∷ [];
  left = [];
  order = refl;
  texts = text ∷ [];
  each = (is, tt);
  written = record {
    written = written.written;
    left = written.left;
    whole = written.whole ∙ sym (append-nil (line_text style text));
    held = written.held;
  };
}

-- nothing is answered where the run ends before
pub none_answered : {A E : Type 0} (answers : List ℕ → List ℕ → Type 0) (result : Result A E) (style : Style)
    (asked : List (List ℕ)) (held : Option (List ℕ)) → IsErr result
    → AnswersInOrder answers (lines_text style) asked result held held
none_answered answers (Ok done) style asked held failed = absurd (cc)
none_answered answers (Err fault) style asked held failed = answered_of_more [] asked (nothing_answered style held)

-- a text that answers a line answers it in another sense too
each_too : (answers others : List ℕ → List ℕ → Type 0) (line : List ℕ) (texts : List (List ℕ))
    → ((text : List ℕ) → answers line text → others line text) → AnswerEach answers (line ∷ []) texts
    → AnswerEach others (line ∷ []) texts
each_too answers others line [] too each = absurd each
each_too answers others line (text ∷ []) too each = (too text each.0, tt)
each_too answers others line (text ∷ next ∷ texts) too each = absurd each.1

-- the same of the first of one line
first_too : (answers others : List ℕ → List ℕ → Type 0) (line : List ℕ) (first left texts : List (List ℕ))
    → ((text : List ℕ) → answers line text → others line text) → first ++ left ≡ line ∷ []
    → AnswerEach answers first texts → AnswerEach others first texts
first_too answers others line [] left [] too order each = tt
first_too answers others line [] left (text ∷ texts) too order each = absurd each
first_too answers others line (one ∷ []) left [] too order each = absurd each
first_too answers others line (one ∷ []) left (text ∷ texts) too order each =
    let same : line ≡ one = cc in
    each_too answers others one (text ∷ texts)
    (λ text is. subst (λ asked. others asked text) same (too text (subst (λ asked. answers asked text) (sym same) is)))
    each
first_too answers others line (one ∷ two ∷ first) left texts too order each = absurd (cc)

-- a line that is answered in one sense is answered in the other
pub answered_too : {answers others : List ℕ → List ℕ → Type 0} {form : List (List ℕ) → List ℕ}
    {old new : Option (List ℕ)} (line : List ℕ) → ((text : List ℕ) → answers line text → others line text)
    → Answered answers form (line ∷ []) old new → Answered others form (line ∷ []) old new
answered_too {answers = answers} {others = others} line too so_far = record {
  texts = so_far.texts;
  each = each_too answers others line so_far.texts too so_far.each;
  written = so_far.written;
}

-- the same where the run ends early
pub answered_first_too : {answers others : List ℕ → List ℕ → Type 0} {form : List (List ℕ) → List ℕ}
    {old new : Option (List ℕ)} (line : List ℕ) → ((text : List ℕ) → answers line text → others line text)
    → AnsweredFirst answers form (line ∷ []) old new → AnsweredFirst others form (line ∷ []) old new
answered_first_too {answers = answers} {others = others} line too so_far = record {
  first = so_far.first;
  left = so_far.left;
  order = so_far.order;
  texts = so_far.texts;
  each = first_too answers others line so_far.first so_far.left so_far.texts too so_far.order so_far.each;
  written = so_far.written;
}

-- no line was taken yet
pub no_lines : {answers : List ℕ → List ℕ → Type 0} (style : Style) (known : Option (List (List ℕ)))
    (held : Option (List ℕ)) → AnsweredLines answers style known known held held
no_lines style known held = record { lines = []; taken = all known; answered = nothing_answered style held } where
  all : (known : Option (List (List ℕ)))
      → IfSome known (λ all. (rest : List (List ℕ)) × ((known ≡ Some rest) × ([] ++ rest ≡ all)))
  all None = tt
  all (Some lines) = (lines, (refl, refl))

-- the line that the rest begins with is taken
taken_one : (known left next : Option (List (List ℕ))) (lines : List (List ℕ)) (line : List ℕ)
    → IfSome known (λ all. (rest : List (List ℕ)) × ((left ≡ Some rest) × (lines ++ rest ≡ all)))
    → BeginWith left line → IfSome left (λ all. next ≡ Some (drop 1 all))
    → IfSome known (λ all. (rest : List (List ℕ)) × ((next ≡ Some rest) × ((lines ++ line ∷ []) ++ rest ≡ all)))
taken_one None left next lines line taken begins passed = tt
taken_one (Some all) None next lines line taken begins passed =
    let none : None ≡ Some taken.0 = taken.1.0 in absurd (cc)
taken_one (Some all) (Some rest) next lines line taken begins passed =
    let same : rest ≡ taken.0 = cc in
    let front : rest ≡ line ∷ begins.0 = begins.1 in (
      begins.0,
      (
        passed ∙ ap (λ all. Some (drop 1 all)) front,
        append_assoc lines (line ∷ []) begins.0 ∙ (ap (λ rest. lines ++ rest) (sym front ∙ same) ∙ taken.1.1),
      ),
    )

-- a line more is taken and answered
pub line_more : {answers : List ℕ → List ℕ → Type 0} (style : Style) (known left next : Option (List (List ℕ)))
    (line : List ℕ) (old middle new : Option (List ℕ)) → AnsweredLines answers style known left old middle
    → BeginWith left line → IfSome left (λ all. next ≡ Some (drop 1 all))
    → Answered answers (lines_text style) (line ∷ []) middle new → AnsweredLines answers style known next old new
line_more style known left next line old middle new so_far begins passed one = record {
  lines = so_far.lines ++ line ∷ [];
  taken = taken_one known left next so_far.lines line so_far.taken begins passed;
  answered = answered_more style so_far.lines (line ∷ []) old middle new so_far.answered one;
}

-- it ends within the lines that were taken
within : {answers : List ℕ → List ℕ → Type 0} (style : Style) (known : Option (List (List ℕ)))
    (lines : List (List ℕ)) (old new : Option (List ℕ))
    → IfSome known (λ all. (rest : List (List ℕ)) × (lines ++ rest ≡ all))
    → AnsweredFirst answers (lines_text style) lines old new → AnsweredFirstLines answers style known old new
within style None lines old new taken first = record { lines = lines; all = tt; answered = first }
within style (Some all) lines old new taken first =
    record { lines = lines ++ taken.0; all = taken.1; answered = first_of_more lines taken.0 first }

-- what was known of lines and one more, without what is left
behind : (known left : Option (List (List ℕ))) (lines : List (List ℕ)) (line : List ℕ)
    → IfSome known (λ all. (rest : List (List ℕ)) × ((left ≡ Some rest) × (lines ++ rest ≡ all)))
    → BeginWith left line → IfSome known (λ all. (rest : List (List ℕ)) × ((lines ++ line ∷ []) ++ rest ≡ all))
behind None left lines line taken begins = tt
behind (Some all) None lines line taken begins = let none : None ≡ Some taken.0 = taken.1.0 in absurd (cc)
behind (Some all) (Some rest) lines line taken begins =
    let same : rest ≡ taken.0 = cc in (
      begins.0,
      append_assoc lines (line ∷ []) begins.0
          ∙ (ap (λ rest. lines ++ rest) (sym begins.1 ∙ same) ∙ taken.1.1),
    )

-- it ends amid the next line
pub line_ends : {answers : List ℕ → List ℕ → Type 0} (style : Style) (known left : Option (List (List ℕ)))
    (line : List ℕ) (old middle new : Option (List ℕ)) → AnsweredLines answers style known left old middle
    → BeginWith left line → AnsweredFirst answers (lines_text style) (line ∷ []) middle new
    → AnsweredFirstLines answers style known old new
line_ends style known left line old middle new so_far begins one =
    within style known (so_far.lines ++ line ∷ []) old new (behind known left so_far.lines line so_far.taken begins)
    (answered_first_more style so_far.lines (line ∷ []) old middle new so_far.answered one)

-- it ends after the next line
pub line_last : {answers : List ℕ → List ℕ → Type 0} (style : Style) (known left : Option (List (List ℕ)))
    (line : List ℕ) (old middle new : Option (List ℕ)) → AnsweredLines answers style known left old middle
    → BeginWith left line → Answered answers (lines_text style) (line ∷ []) middle new
    → AnsweredFirstLines answers style known old new
line_last style known left line old middle new so_far begins one =
    line_ends style known left line old middle new so_far begins (answered_of_more (line ∷ []) [] one)

-- a run that ended early
pub ends_early : {A E : Type 0} (answers : List ℕ → List ℕ → Type 0) (style : Style)
    (known left : Option (List (List ℕ))) (old new : Option (List ℕ)) (result : Result A E) → IsErr result
    → AnsweredFirstLines answers style known old new → AnswersLines answers style known left result old new
ends_early answers style known left old new (Ok done) failed early = absurd (cc)
ends_early answers style known left old new (Err fault) failed early = early
