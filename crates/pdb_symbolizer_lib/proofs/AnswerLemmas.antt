-- Answers, one after the other.
use Rattle.std.proofs.Common.{◌∙◌, ap, sym, subst, refl, ℕ, List, [], ◌∷◌, ◌++◌, append_assoc, append-nil, Option}
use Rattle.std.proofs.lemmas.Grind.{flat_map-append}
use Rattle.std.specs.Io.KnownBytes.{Appends}
use Rattle.std.proofs.KnownBytes.{Appends-nil, Appends-trans}
use Rattle.pdb_answer_printer.specs.declared.printer_options.Style.{Style}
use Rattle.pdb_symbolizer_lib.specs.AnswersInOrder.{AnswerEach, Answered, AnsweredFirst, line_text, lines_text}

-- answers, and then those to what is asked after
pub each_append : (answers : List ℕ → List ℕ → Type 0) (asked texts more others : List (List ℕ))
    → AnswerEach answers asked texts → AnswerEach answers more others
    → AnswerEach answers (asked ++ more) (texts ++ others)
each_append answers [] [] more others each behind = behind
each_append answers [] (text ∷ texts) more others each behind = absurd each
each_append answers (one ∷ asked) [] more others each behind = absurd each
each_append answers (one ∷ asked) (text ∷ texts) more others each behind =
    (each.0, each_append answers asked texts more others each.1 behind)

-- what was answered, and then more
pub answered_more : {answers : List ℕ → List ℕ → Type 0} (style : Style) (asked more : List (List ℕ))
    (old middle new : Option (List ℕ)) → Answered answers (lines_text style) asked old middle
    → Answered answers (lines_text style) more middle new
    → Answered answers (lines_text style) (asked ++ more) old new
answered_more {answers = answers} style asked more old middle new so_far behind = record {
  texts = so_far.texts ++ behind.texts;
  each = each_append answers asked so_far.texts more behind.texts so_far.each behind.each;
  written = subst (Appends old new) (sym (flat_map-append (line_text style) so_far.texts behind.texts))
      (Appends-trans old middle new (lines_text style so_far.texts) (lines_text style behind.texts)
      so_far.written behind.written);
}

-- what was answered, and then the first of more
pub answered_first_more : {answers : List ℕ → List ℕ → Type 0} (style : Style) (asked more : List (List ℕ))
    (old middle new : Option (List ℕ)) → Answered answers (lines_text style) asked old middle
    → AnsweredFirst answers (lines_text style) more middle new
    → AnsweredFirst answers (lines_text style) (asked ++ more) old new
answered_first_more {answers = answers} style asked more old middle new so_far behind = record {
  first = asked ++ behind.first;
  left = behind.left;
  order = append_assoc asked behind.first behind.left ∙ ap (λ rest. asked ++ rest) behind.order;
  texts = so_far.texts ++ behind.texts;
  each = each_append answers asked so_far.texts behind.first behind.texts so_far.each behind.each;
  written = record {
    written = lines_text style so_far.texts ++ behind.written.written;
    left = behind.written.left;
    whole = append_assoc (lines_text style so_far.texts) behind.written.written behind.written.left
        ∙ (ap (λ rest. lines_text style so_far.texts ++ rest) behind.written.whole
        ∙ sym (flat_map-append (line_text style) so_far.texts behind.texts));
    held = Appends-trans old middle new (lines_text style so_far.texts) behind.written.written
        so_far.written behind.written.held;
  };
}

-- what was answered, of more
pub answered_of_more : {answers : List ℕ → List ℕ → Type 0} {form : List (List ℕ) → List ℕ}
    {old new : Option (List ℕ)} (asked more : List (List ℕ)) → Answered answers form asked old new
    → AnsweredFirst answers form (asked ++ more) old new
answered_of_more {form = form} asked more so_far = record {
  first = asked;
  left = more;
  order = refl;
  texts = so_far.texts;
  each = so_far.each;
  written = record {
    written = form so_far.texts;
    left = [];
    whole = append-nil (form so_far.texts);
    held = so_far.written;
  };
}

-- the first of what was asked is the first of more
pub first_of_more : {answers : List ℕ → List ℕ → Type 0} {form : List (List ℕ) → List ℕ}
    {old new : Option (List ℕ)} (asked more : List (List ℕ)) → AnsweredFirst answers form asked old new
    → AnsweredFirst answers form (asked ++ more) old new
first_of_more asked more so_far = record {
  first = so_far.first;
  left = so_far.left ++ more;
  order = sym (append_assoc so_far.first so_far.left more) ∙ ap (λ all. all ++ more) so_far.order;
  texts = so_far.texts;
  each = so_far.each;
  written = so_far.written;
}

-- nothing was answered yet
pub nothing_answered : {answers : List ℕ → List ℕ → Type 0} (style : Style) (held : Option (List ℕ))
    → Answered answers (lines_text style) [] held held
nothing_answered style held = record { texts = []; each = tt; written = Appends-nil held }
