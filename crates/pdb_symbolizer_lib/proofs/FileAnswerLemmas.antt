-- Answers over a file: all of them, by what was read of it.
use Rattle.std.proofs.Common.{◌≡◌, ◌∙◌, ap, refl, subst, sym, ℕ, Bool, true, false, List, [], ◌∷◌, ◌++◌, append_assoc}
use Rattle.std.proofs.Common.{append-nil, Result, Ok, Err}
use Rattle.std.specs.Prelude.{Option, Some, None, IfSome, IsErr, not, ◌&&◌}
use Rattle.std.specs.List.{filter_map}
use Rattle.std.proofs.KnownBytes.{Appends-nil}
use Rattle.std.proofs.lemmas.List.Elements.{filter_map-append}
use Rattle.std.proofs.lemmas.List.Folds.{list_all-append}
use Rattle.pdb_types.specs.declared.flags.TypeFormatterFlags.{TypeFormatterFlags}
use Rattle.pdb_frames.specs.Frame.{FramesInfo}
use Rattle.pdb_known.specs.Known.{Known}
use Rattle.pdb_session.specs.FileParts.{IsPartOfFile}
use Rattle.pdb_session.specs.Session.{SameFile, SessionFile, needs, needs_none}
use Rattle.pdb_answer_printer.specs.declared.printer_options.Style.{Style}
use Rattle.pdb_symbolizer_lib.specs.AnsweredRequests.{AnswersText, AreFramesAt, AreFramesOfFile, AreFramesOver}
use Rattle.pdb_symbolizer_lib.specs.AnsweredRequests.{asked_address}
use Rattle.pdb_symbolizer_lib.specs.AnswersInOrder.{AnswerEach, Answered, AnsweredAllLines, AnsweredFirst}
use Rattle.pdb_symbolizer_lib.specs.AnswersInOrder.{AnswersAllLines}
use Rattle.pdb_symbolizer_lib.specs.AnswersInOrder.{AnsweredFirstLines, AnsweredLines, AnswersInOrder, AnswersLines}
use Rattle.pdb_symbolizer_lib.specs.AnswersInOrder.{lines_text, words_text}
use Rattle.pdb_symbolizer_lib.specs.declared.questions.Questions.{Questions}
use Rattle.pdb_symbolizer_lib.proofs.AnsweredTextLemmas.{text_of_file, text_too, words_over}
use Rattle.pdb_symbolizer_lib.proofs.AnswerLemmas.{answered_first_more, answered_more, answered_of_more}
use Rattle.pdb_symbolizer_lib.proofs.AnswerLemmas.{nothing_answered}

-- texts that answer in one sense answer in another
each_better : (answers others : List ℕ → List ℕ → Type 0)
    → ((asked text : List ℕ) → answers asked text → others asked text) → (asked texts : List (List ℕ))
    → AnswerEach answers asked texts → AnswerEach others asked texts
each_better answers others better [] [] each = tt
each_better answers others better [] (text ∷ texts) each = absurd each
each_better answers others better (one ∷ asked) [] each = absurd each
each_better answers others better (one ∷ asked) (text ∷ texts) each =
    (better one text each.0, each_better answers others better asked texts each.1)

-- so does all that was answered
answered_better : (answers others : List ℕ → List ℕ → Type 0) (form : List (List ℕ) → List ℕ)
    (asked : List (List ℕ)) (old new : Option (List ℕ))
    → ((asked text : List ℕ) → answers asked text → others asked text) → Answered answers form asked old new
    → Answered others form asked old new
answered_better answers others form asked old new better so_far = record {
  texts = so_far.texts;
  each = each_better answers others better asked so_far.texts so_far.each;
  written = so_far.written;
}

-- so does the first of it
answered_first_better : (answers others : List ℕ → List ℕ → Type 0) (form : List (List ℕ) → List ℕ)
    (asked : List (List ℕ)) (old new : Option (List ℕ))
    → ((asked text : List ℕ) → answers asked text → others asked text) → AnsweredFirst answers form asked old new
    → AnsweredFirst others form asked old new
answered_first_better answers others form asked old new better so_far = record {
  first = so_far.first;
  left = so_far.left;
  order = so_far.order;
  texts = so_far.texts;
  each = each_better answers others better so_far.first so_far.texts so_far.each;
  written = so_far.written;
}

-- lines that were taken and are answered in one sense are answered in another
pub taken_lines_better : (answers others : List ℕ → List ℕ → Type 0) (style : Style)
    (known left : Option (List (List ℕ))) (old new : Option (List ℕ))
    → ((asked text : List ℕ) → answers asked text → others asked text)
    → AnsweredLines answers style known left old new → AnsweredLines others style known left old new
taken_lines_better answers others style known left old new better so_far = record {
  lines = so_far.lines;
  taken = so_far.taken;
  answered = answered_better answers others (lines_text style) so_far.lines old new better so_far.answered;
}

-- so are the first lines where the run ends early
pub first_lines_better : (answers others : List ℕ → List ℕ → Type 0) (style : Style)
    (known : Option (List (List ℕ))) (old new : Option (List ℕ))
    → ((asked text : List ℕ) → answers asked text → others asked text)
    → AnsweredFirstLines answers style known old new → AnsweredFirstLines others style known old new
first_lines_better answers others style known old new better so_far = record {
  lines = so_far.lines;
  all = so_far.all;
  answered = answered_first_better answers others (lines_text style) so_far.lines old new better so_far.answered;
}

-- so are lines where it is open whether the run ends early
pub lines_better : {A E : Type 0} (answers others : List ℕ → List ℕ → Type 0) (style : Style)
    (known left : Option (List (List ℕ))) (old new : Option (List ℕ)) (result : Result A E)
    → ((asked text : List ℕ) → answers asked text → others asked text)
    → AnswersLines answers style known left result old new → AnswersLines others style known left result old new
lines_better answers others style known left old new (Ok done) better so_far =
    taken_lines_better answers others style known left old new better so_far
lines_better answers others style known left old new (Err fault) better so_far =
    first_lines_better answers others style known old new better so_far

-- a run over all lines that ended early
pub stops_early : {A E : Type 0} (answers : List ℕ → List ℕ → Type 0) (style : Style)
    (known : Option (List (List ℕ))) (old new : Option (List ℕ)) (result : Result A E) → IsErr result
    → AnsweredFirstLines answers style known old new → AnswersAllLines answers style known result old new
stops_early answers style known old new (Ok done) failed early = absurd (cc)
stops_early answers style known old new (Err fault) failed early = early

-- no line was answered
pub none_of_lines : (answers : List ℕ → List ℕ → Type 0) (style : Style) (known : Option (List (List ℕ)))
    (held : Option (List ℕ)) → AnsweredFirstLines answers style known held held
none_of_lines answers style None held =
    record { lines = []; all = tt; answered = answered_of_more [] [] (nothing_answered style held) }
none_of_lines answers style (Some all) held =
    record { lines = all; all = refl; answered = answered_of_more [] all (nothing_answered style held) }

-- lines were answered, and the run ends
pub lines_stop : (answers : List ℕ → List ℕ → Type 0) (style : Style) (known left : Option (List (List ℕ)))
    (old new : Option (List ℕ)) → AnsweredLines answers style known left old new
    → AnsweredFirstLines answers style known old new
lines_stop answers style None left old new so_far =
    record { lines = so_far.lines ++ []; all = tt; answered = answered_of_more so_far.lines [] so_far.answered }
lines_stop answers style (Some all) left old new so_far = record {
  lines = so_far.lines ++ so_far.taken.0;
  all = so_far.taken.1.1;
  answered = answered_of_more so_far.lines so_far.taken.0 so_far.answered;
}

-- the run ends while lines after these are answered
pub lines_stop_amid : (answers : List ℕ → List ℕ → Type 0) (style : Style) (known left : Option (List (List ℕ)))
    (old middle new : Option (List ℕ)) → AnsweredLines answers style known left old middle
    → AnsweredFirstLines answers style left middle new → AnsweredFirstLines answers style known old new
lines_stop_amid answers style known left old middle new so_far behind = record {
  lines = so_far.lines ++ behind.lines;
  all = all known left so_far.lines behind.lines so_far.taken behind.all;
  answered = answered_first_more style so_far.lines behind.lines old middle new so_far.answered behind.answered;
} where
  all : (known left : Option (List (List ℕ))) (lines more : List (List ℕ))
      → IfSome known (λ all. (rest : List (List ℕ)) × ((left ≡ Some rest) × (lines ++ rest ≡ all)))
      → IfSome left (λ all. more ≡ all) → IfSome known (λ all. lines ++ more ≡ all)
  all None left lines more taken same = tt
  all (Some whole) None lines more taken same = let none : None ≡ Some taken.0 = taken.1.0 in absurd (cc)
  all (Some whole) (Some rest) lines more taken same =
      let is : rest ≡ taken.0 = cc in ap (λ rest. lines ++ rest) (same ∙ is) ∙ taken.1.1

-- lines after these are answered too
pub lines_more : (answers : List ℕ → List ℕ → Type 0) (style : Style) (known left last : Option (List (List ℕ)))
    (old middle new : Option (List ℕ)) → AnsweredLines answers style known left old middle
    → AnsweredLines answers style left last middle new → AnsweredLines answers style known last old new
lines_more answers style known left last old middle new so_far behind = record {
  lines = so_far.lines ++ behind.lines;
  taken = taken known left last so_far.lines behind.lines so_far.taken behind.taken;
  answered = answered_more style so_far.lines behind.lines old middle new so_far.answered behind.answered;
} where
  taken : (known left last : Option (List (List ℕ))) (lines more : List (List ℕ))
      → IfSome known (λ all. (rest : List (List ℕ)) × ((left ≡ Some rest) × (lines ++ rest ≡ all)))
      → IfSome left (λ all. (rest : List (List ℕ)) × ((last ≡ Some rest) × (more ++ rest ≡ all)))
      → IfSome known (λ all. (rest : List (List ℕ)) × ((last ≡ Some rest) × ((lines ++ more) ++ rest ≡ all)))
  taken None left last lines more first then = tt
  taken (Some whole) None last lines more first then = let none : None ≡ Some first.0 = first.1.0 in absurd (cc)
  taken (Some whole) (Some rest) last lines more first then =
      let is : rest ≡ first.0 = cc in (
        then.0,
        (
          then.1.0,
          append_assoc lines more then.0
              ∙ (ap (λ rest. lines ++ rest) (then.1.1 ∙ is) ∙ first.1.1),
        ),
      )

-- no line is left
pub lines_end : (answers : List ℕ → List ℕ → Type 0) (style : Style) (known left : Option (List (List ℕ)))
    (old new : Option (List ℕ)) → AnsweredLines answers style known left old new
    → IfSome left (λ all. all ≡ []) → AnsweredAllLines answers style known old new
lines_end answers style known left old new so_far none =
    record { lines = so_far.lines; all = all known left so_far.lines so_far.taken none; answered = so_far.answered } where
      all : (known left : Option (List (List ℕ))) (lines : List (List ℕ))
          → IfSome known (λ all. (rest : List (List ℕ)) × ((left ≡ Some rest) × (lines ++ rest ≡ all)))
          → IfSome left (λ all. all ≡ []) → IfSome known (λ all. lines ≡ all)
      all None left lines taken none = tt
      all (Some whole) None lines taken none = let no : None ≡ Some taken.0 = taken.1.0 in absurd (cc)
      all (Some whole) (Some rest) lines taken none =
          let is : taken.0 ≡ [] = cc in
          sym (append-nil lines) ∙ (ap (λ rest. lines ++ rest) (sym is) ∙ taken.1.1)

-- frames of a session's file are those of the same file
file_too : (before after : SessionFile) (flags : TypeFormatterFlags) (at : ℕ) (found : Option FramesInfo)
    → SameFile before after → AreFramesOfFile after flags at found → AreFramesOfFile before flags at found
file_too before after flags at found same frames =
    subst (λ (file : Option (List ℕ)). AreFramesOfFile (record before { bytes = file }) flags at found) same.0
    (subst (λ (file_length : ℕ). AreFramesOfFile (record after { file_length = file_length }) flags at found) same.1
    frames)

-- so are texts
pub same_file_text : (before after : SessionFile) (flags : TypeFormatterFlags) (questions : Questions)
    (asked text : List ℕ) → SameFile before after → AnswersText questions (AreFramesOfFile after flags) asked text
    → AnswersText questions (AreFramesOfFile before flags) asked text
same_file_text before after flags questions asked text same answer =
    text_too questions (AreFramesOfFile after flags) (AreFramesOfFile before flags) asked text
    (λ at found is frames. file_too before after flags at found same frames) answer

-- no word was answered
pub none_of_words : (answers : List ℕ → List ℕ → Type 0) (style : Style) (words : List (List ℕ))
    (held : Option (List ℕ)) → AnsweredFirst answers (words_text style) words held held
none_of_words answers style words held = record {
  first = [];
  left = words;
  order = refl;
  texts = [];
  each = tt;
  written = record { written = []; left = words_text style []; whole = refl; held = Appends-nil held };
}

-- where nothing is still to be read for words, nothing is for the first of them
none_of_first : (known : Known) (questions : Questions) (words first left : List (List ℕ)) → first ++ left ≡ words
    → needs_none known (filter_map (asked_address questions) words) ≡ true
    → needs_none known (filter_map (asked_address questions) first) ≡ true
none_of_first known questions words first left order none =
    let asked = asked_address questions in
    let both : (needs_none known (filter_map asked first) && needs_none known (filter_map asked left)) ≡ true
    = sym (list_all-append (λ address. not (needs known address)) (filter_map asked first) (filter_map asked left))
    ∙ (ap (needs_none known) (sym (filter_map-append asked first left) ∙ ap (filter_map asked) order) ∙ none) in
    first_of_both (needs_none known (filter_map asked first)) (needs_none known (filter_map asked left)) both where
      first_of_both : (one two : Bool) → (one && two) ≡ true → one ≡ true
      first_of_both true two both = refl
      first_of_both false two both = both

-- words are answered over a file of which enough was read
pub words_of_file : {A E : Type 0} (session : SessionFile) (known : Known) (flags : TypeFormatterFlags)
    (questions : Questions) (style : Style) (words : List (List ℕ)) (old new : Option (List ℕ)) (result : Result A E)
    → needs_none known (filter_map (asked_address questions) words) ≡ true
    → IsPartOfFile known session.bytes session.file_length
    → AnswersInOrder (AnswersText questions (AreFramesAt known flags)) (words_text style) words result old new
    → AnswersInOrder (AnswersText questions (AreFramesOfFile session flags)) (words_text style) words result old new
words_of_file session known flags questions style words old new (Ok done) none part so_far = record {
  texts = so_far.texts;
  each = each_better (AnswersText questions (AreFramesOver known flags))
      (AnswersText questions (AreFramesOfFile session flags))
      (λ asked text answer. text_of_file session known flags questions asked text part answer) words so_far.texts
      (words_over known flags questions words so_far.texts none so_far.each);
  written = so_far.written;
}
words_of_file session known flags questions style words old new (Err fault) none part so_far = record {
  first = so_far.first;
  left = so_far.left;
  order = so_far.order;
  texts = so_far.texts;
  each = each_better (AnswersText questions (AreFramesOver known flags))
      (AnswersText questions (AreFramesOfFile session flags))
      (λ asked text answer. text_of_file session known flags questions asked text part answer) so_far.first
      so_far.texts
      (words_over known flags questions so_far.first so_far.texts
      (none_of_first known questions words so_far.first so_far.left so_far.order none) so_far.each);
  written = so_far.written;
}
