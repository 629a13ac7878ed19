-- Words that are answered one after the other.
use Rattle.std.proofs.Common.{◌≡◌, ◌∙◌, ap, sym, subst, refl, ℕ, ◌+◌, ◌<◌, ◌≤◌, List, [], ◌∷◌, ◌++◌, append_assoc}
use Rattle.std.proofs.Common.{append-nil, drop, get_or, length, take, take-append-drop, add-one, suc}
use Rattle.std.proofs.Common.{Option, Result, Ok, Err, arith}
use Rattle.std.proofs.lemmas.Bool.Decides.{nat_tests}
use Rattle.std.proofs.Math.Seq.{take-suc}
use Rattle.std.specs.Prelude.{true, false, ◌==◌, IsErr}
use Rattle.std.specs.Io.KnownBytes.{Appends}
use Rattle.std.proofs.lemmas.Grind.{flat_map-append}
use Rattle.std.proofs.lemmas.List.{length-take-le}
use Rattle.std.proofs.KnownBytes.{Appends-trans}
use Rattle.pdb_answer_printer.specs.declared.printer_options.Style.{Style}
use Rattle.pdb_answer_printer.specs.declared.printer_options.Style.TheVariants.{Llvm, Gnu, Json}
use Rattle.pdb_symbolizer_lib.specs.AnswersInOrder.{AnswerEach, Answered, AnsweredFirst, AnswersInOrder, list_end}
use Rattle.pdb_symbolizer_lib.specs.AnswersInOrder.{list_start}
use Rattle.pdb_symbolizer_lib.specs.AnswersInOrder.{separator, words_after, words_listed, words_text}
use Rattle.pdb_symbolication.specs.Writes.{AppendsBeginning, Writes}
use Rattle.pdb_symbolizer_lib.proofs.AnswerLemmas.{each_append}
use Rattle.pdb_symbolication.proofs.WriteLemmas.{Goes, goes_amid, goes_end, goes_first, goes_no_more}

-- the answers so far, after what stands before them
abbrev pub front_text : Style → List (List ℕ) → List ℕ
front_text style texts = list_start style ++ words_listed style texts

-- nothing stands before the first answer
no_separator : (style : Style) → separator style true ≡ []
no_separator Llvm = refl
no_separator Gnu = refl
no_separator Json = refl

-- an answer more is listed
pub listed_more : (style : Style) (texts : List (List ℕ)) (text : List ℕ)
    → words_listed style (texts ++ text ∷ [])
    ≡ words_listed style texts ++ (separator style (length texts == 0) ++ text)
listed_more style [] text = append-nil text ∙ ap (λ front. front ++ text) (sym (no_separator style))
listed_more style (first ∷ texts) text =
    let some : (length (first ∷ texts) == 0) ≡ false = grind (arith, nat_tests) in
    rw some (ap (λ rest. first ++ rest) (flat_map-append (λ text. separator style false ++ text) texts (text ∷ [])
    ∙ ap (λ last. words_after style texts ++ last) (append-nil (separator style false ++ text)))
    ∙ sym (append_assoc first (words_after style texts) (separator style false ++ text)))

-- there are as many answers as words that are answered
as_many : (answers : List ℕ → List ℕ → Type 0) (asked texts : List (List ℕ)) → AnswerEach answers asked texts
    → length texts ≡ length asked
as_many answers [] [] each = refl
as_many answers [] (text ∷ texts) each = absurd each
as_many answers (one ∷ asked) [] each = absurd each
as_many answers (one ∷ asked) (text ∷ texts) each = ap suc (as_many answers asked texts each.1)

-- of the answers so far only what stands after them is left
pub end_left : (style : Style) (texts : List (List ℕ)) (old middle : Option (List ℕ))
    → Appends old middle (front_text style texts) → Goes old middle (list_end style) (words_text style texts)
end_left style texts old middle written = record {
  written = front_text style texts;
  whole = append_assoc (list_start style) (words_listed style texts) (list_end style);
  held = written;
}

-- an answer more is left, with what stands before it and after all
pub answer_left : (style : Style) (texts : List (List ℕ)) (text : List ℕ) (old middle : Option (List ℕ))
    → Appends old middle (front_text style texts)
    → Goes old middle (separator style (length texts == 0) ++ (text ++ list_end style))
    (words_text style (texts ++ text ∷ []))
answer_left style texts text old middle written =
    let before = separator style (length texts == 0) in
    let listed = words_listed style texts in
    let end = list_end style in
    record {
      written = front_text style texts;
      whole = append_assoc (list_start style) listed (before ++ (text ++ end))
          ∙ ap (λ rest. list_start style ++ rest) (ap (λ rest. listed ++ rest) (sym (append_assoc before text end))
          ∙ (sym (append_assoc listed (before ++ text) end)
          ∙ ap (λ all. all ++ end) (sym (listed_more style texts text))));
      held = written;
    }

-- the words up to one, and that
one_more : (words : List (List ℕ)) (number : ℕ) (word : List ℕ) → number < length words
    → word ≡ get_or words number word → take number words ++ word ∷ [] ≡ take (number + 1) words
one_more words number word within is =
    ap (λ last. take number words ++ last ∷ []) is
    ∙ (sym (take-suc words number word within) ∙ ap (λ count. take count words) (sym (add-one number)))

-- there are as many answers as the words up to one
so_many : (answers : List ℕ → List ℕ → Type 0) (words texts : List (List ℕ)) (number : ℕ) → number < length words
    → AnswerEach answers (take number words) texts → length texts ≡ number
so_many answers words texts number within each =
    let few : number ≤ length words = omega (arith, within) in
    as_many answers (take number words) texts each ∙ length-take-le number words few

-- an answer more is listed
pub word_more : (answers : List ℕ → List ℕ → Type 0) (style : Style) (words : List (List ℕ)) (number : ℕ)
    (word text : List ℕ) (old middle later new : Option (List ℕ)) → number < length words
    → word ≡ get_or words number word → Answered answers (front_text style) (take number words) old middle
    → answers word text → Appends middle later (separator style (number == 0)) → Appends later new text
    → Answered answers (front_text style) (take (number + 1) words) old new
word_more answers style words number word text old middle later new within is so_far right before last =
    let texts = so_far.texts in
    let many : length texts ≡ number = so_many answers words texts number within so_far.each in
    let listed = words_listed style texts in
    let between = separator style (number == 0) in
    let grown : Appends old new (front_text style texts ++ (between ++ text))
    = Appends-trans old middle new (front_text style texts) (between ++ text) so_far.written
    (Appends-trans middle later new between text before last) in
    let same : front_text style texts ++ (between ++ text) ≡ front_text style (texts ++ text ∷ [])
    = append_assoc (list_start style) listed (between ++ text)
    ∙ (ap (λ count. list_start style ++ (listed ++ (separator style (count == 0) ++ text))) (sym many)
    ∙ ap (λ rest. list_start style ++ rest) (sym (listed_more style texts text))) in
    record {
      texts = texts ++ text ∷ [];
      each = subst (λ asked. AnswerEach answers asked (texts ++ text ∷ [])) (one_more words number word within is)
          (each_append answers (take number words) texts (word ∷ []) (text ∷ []) so_far.each (right, tt));
      written = subst (Appends old new) same grown;
    }

-- the run ends before a word is answered
pub word_refused : (answers : List ℕ → List ℕ → Type 0) (style : Style) (words : List (List ℕ)) (number : ℕ)
    (old middle : Option (List ℕ)) → Answered answers (front_text style) (take number words) old middle
    → AnsweredFirst answers (words_text style) words old middle
word_refused answers style words number old middle so_far = record {
  first = take number words;
  left = drop number words;
  order = take-append-drop number words;
  texts = so_far.texts;
  each = so_far.each;
  written = goes_no_more (end_left style so_far.texts old middle so_far.written);
}

-- what is left while the answer of a word is written
pub word_left : (answers : List ℕ → List ℕ → Type 0) (style : Style) (words : List (List ℕ)) (number : ℕ)
    (text : List ℕ) (old middle : Option (List ℕ)) → number < length words
    → (so_far : Answered answers (front_text style) (take number words) old middle)
    → Goes old middle (separator style (number == 0) ++ (text ++ list_end style))
    (words_text style (so_far.texts ++ text ∷ []))
word_left answers style words number text old middle within so_far =
    subst (λ count. Goes old middle (separator style (count == 0) ++ (text ++ list_end style))
    (words_text style (so_far.texts ++ text ∷ [])))
    (so_many answers words so_far.texts number within so_far.each)
    (answer_left style so_far.texts text old middle so_far.written)

-- the run ends while the answer of a word is written
pub word_ends : (answers : List ℕ → List ℕ → Type 0) (style : Style) (words : List (List ℕ)) (number : ℕ)
    (word text : List ℕ) (old middle new : Option (List ℕ)) → number < length words
    → word ≡ get_or words number word
    → (so_far : Answered answers (front_text style) (take number words) old middle)
    → answers word text → AppendsBeginning old new (words_text style (so_far.texts ++ text ∷ []))
    → AnsweredFirst answers (words_text style) words old new
word_ends answers style words number word text old middle new within is so_far right amid = record {
  first = take number words ++ word ∷ [];
  left = drop (number + 1) words;
  order = ap (λ first. first ++ drop (number + 1) words) (one_more words number word within is)
      ∙ take-append-drop (number + 1) words;
  texts = so_far.texts ++ text ∷ [];
  each = each_append answers (take number words) so_far.texts (word ∷ []) (text ∷ []) so_far.each (right, tt);
  written = amid;
}

-- the run ends before the first word
pub words_refused : {A E : Type 0} (answers : List ℕ → List ℕ → Type 0) (style : Style) (words : List (List ℕ))
    (old new : Option (List ℕ)) (result : Result A E) → IsErr result
    → AppendsBeginning old new (list_start style)
    → AnswersInOrder answers (words_text style) words result old new
words_refused answers style words old new (Ok done) failed amid = absurd (cc)
words_refused answers style words old new (Err fault) failed amid = record {
  first = [];
  left = words;
  order = refl;
  texts = [];
  each = tt;
  written = goes_amid (list_start style) (list_end style) (goes_first old (words_text style [])) amid;
}

-- a run over words that ended early
pub words_end_early : {A E : Type 0} (answers : List ℕ → List ℕ → Type 0) (style : Style) (words : List (List ℕ))
    (old new : Option (List ℕ)) (result : Result A E) → IsErr result
    → AnsweredFirst answers (words_text style) words old new
    → AnswersInOrder answers (words_text style) words result old new
words_end_early answers style words old new (Ok done) failed early = absurd (cc)
words_end_early answers style words old new (Err fault) failed early = early

-- after the last word
pub words_end : {A E : Type 0} (answers : List ℕ → List ℕ → Type 0) (style : Style) (words : List (List ℕ))
    (old middle new : Option (List ℕ)) (result : Result A E)
    → Answered answers (front_text style) words old middle → Writes middle new result (list_end style)
    → AnswersInOrder answers (words_text style) words result old new
words_end {A = A} {E = E} answers style words old middle new (Ok done) so_far written = record {
  texts = so_far.texts;
  each = so_far.each;
  written = goes_end {A = A} {E = E} (Ok done) new (list_end style)
      (end_left style so_far.texts old middle so_far.written) written;
}
words_end {A = A} {E = E} answers style words old middle new (Err fault) so_far written = record {
  first = words;
  left = [];
  order = append-nil words;
  texts = so_far.texts;
  each = so_far.each;
  written = goes_end {A = A} {E = E} (Err fault) new (list_end style)
      (end_left style so_far.texts old middle so_far.written) written;
}
