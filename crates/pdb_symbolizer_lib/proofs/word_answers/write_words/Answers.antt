-- The answers one after the other, with what stands before, between and after them.
use Rattle.std.proofs.Common.{◌≡◌, ◌∙◌, sym, subst, ℕ, ◌<◌, ◌≤◌, length, List, ◌++◌, get_or, map}
use Rattle.std.proofs.Common.{string_bytes, Bor, [], arith}
use Rattle.std.specs.Prelude.{◌==◌}
use Rattle.std.proofs.lemmas.List.{get_or-map, length-map, take_all}
use Rattle.pdb_symbolizer_lib.specs.AnswersInOrder.{Answered, list_end, separator}
use Rattle.pdb_session.specs.Session.{ContextOverPart}
use Rattle.pdb_symbolizer_lib.specs.AnsweredRequests.{AnswersText, AreFramesAt}
use Rattle.pdb_symbolizer_lib.specs.declared.questions.Questions.{Questions}
use Rattle.pdb_symbolizer_lib.proofs.WordAnswerLemmas.{front_text, word_ends, word_left, word_more, word_refused}
use Rattle.pdb_symbolizer_lib.proofs.WordAnswerLemmas.{words_end}
use Rattle.pdb_symbolizer_lib.proofs.WordAnswerLemmas.{words_end_early, words_refused}
use Rattle.pdb_symbolication.proofs.WriteLemmas.{goes_amid, goes_on}
use Rattle.pdb_symbolizer_lib.proofs.word_answers.write_words.Goals as goal

pub returns-in_err-write_text-clause-answer : goal.returns-in_err-write_text-clause-answer
returns-in_err-write_text-clause-answer g c =
    let answers = AnswersText c.args.questions.now (AreFramesAt c.args.context.now.known c.args.context.now.flags) in
    let style = c.args.questions.now.options.now.printer.style in
    words_refused answers style (map (λ word. word.now) c.args.words.now) (g.W.Output.contents c.args.out.now)
    (g.W.Output.contents c.write_text.new.self) c.from_residual.result c.from_residual.ensures.0
    (rw (sym c.list_start.ensures) (c.in_err-write_text.ensures.text))

pub returns-in_err-text-clause-answer : goal.returns-in_err-text-clause-answer
returns-in_err-text-clause-answer g c =
    let answers = AnswersText c.args.questions.now (AreFramesAt c.args.context.now.known c.args.context.now.flags) in
    let style = c.args.questions.now.options.now.printer.style in
    let words = map (λ word. word.now) c.args.words.now in
    let old = g.W.Output.contents c.args.out.now in
    let new = g.W.Output.contents c.loop-position.out in
    words_end_early answers style words old new c.from_residual-in_err-text.result
    c.from_residual-in_err-text.ensures.0
    (word_refused answers style words c.loop-position.position old new c.loop-position.invariant.0)

-- an answer by a context is one by another over the same part and with the same flags
by_same : (questions : Questions) (word text : List ℕ) (here there : ContextOverPart) → here.known ≡ there.known
    → here.flags ≡ there.flags → AnswersText questions (AreFramesAt here.known here.flags) word text
    → AnswersText questions (AreFramesAt there.known there.flags) word text
by_same questions word text here there known flags answer =
    subst (λ known. AnswersText questions (AreFramesAt known there.flags) word text) known
    (subst (λ flags. AnswersText questions (AreFramesAt here.known flags) word text) flags answer)

-- the word at a position
word_at : List (Bor (List ℕ)) → ℕ → List ℕ
word_at words position = (get_or words position (record { ref_ptr = (0, 0); now = [] })).now

-- it is that of the texts of the words
is_word_at : (words : List (Bor (List ℕ))) (position : ℕ) → position < length words
    → word_at words position ≡ get_or (map (λ word. word.now) words) position (word_at words position)
unfolding word_at
is_word_at words position within =
    sym (get_or-map (λ word. word.now) words position (record { ref_ptr = (0, 0); now = [] })
    (word_at words position) within)

-- it is within these too
within_texts : (words : List (Bor (List ℕ))) (position : ℕ) → position < length words
    → position < length (map (λ word. word.now) words)
within_texts words position within =
    subst (λ count. position < count) (sym (length-map words (λ (word : Bor (List ℕ)). word.now))) within

pub returns-in_err-write_text-2-clause-answer : goal.returns-in_err-write_text-2-clause-answer
unfolding word_at
returns-in_err-write_text-2-clause-answer g c =
    let answers = AnswersText c.args.questions.now (AreFramesAt c.args.context.now.known c.args.context.now.flags) in
    let style = c.args.questions.now.options.now.printer.style in
    let words = map (λ word. word.now) c.args.words.now in
    let position = c.loop-position.position in
    let word = word_at c.args.words.now position in
    let text = string_bytes c.in_ok-text.text in
    let within = within_texts c.args.words.now position c.loop-position-test.true in
    let so_far = c.loop-position.invariant.0 in
    let old = g.W.Output.contents c.args.out.now in
    let middle = g.W.Output.contents c.loop-position.out in
    let new = g.W.Output.contents c.write_text-in-loop-position.new.self in
    let right : answers word text
    = by_same c.args.questions.now word text c.loop-position.context c.args.context.now c.loop-position.invariant.1.0
    c.loop-position.invariant.1.1 c.in_ok-text.ensures.text in
    words_end_early answers style words old new c.from_residual-in_err-write_text-2.result
    c.from_residual-in_err-write_text-2.ensures.0
    (word_ends answers style words position word text old middle new within
    (is_word_at c.args.words.now position c.loop-position-test.true) so_far right
    (goes_amid (separator style (position == 0)) (text ++ list_end style)
    (word_left answers style words position text old middle within so_far)
    (rw (sym c.separator.ensures) c.in_err-write_text-2.ensures.text)))

pub returns-in_err-write_text-3-clause-answer : goal.returns-in_err-write_text-3-clause-answer
unfolding word_at
returns-in_err-write_text-3-clause-answer g c =
    let answers = AnswersText c.args.questions.now (AreFramesAt c.args.context.now.known c.args.context.now.flags) in
    let style = c.args.questions.now.options.now.printer.style in
    let words = map (λ word. word.now) c.args.words.now in
    let position = c.loop-position.position in
    let word = word_at c.args.words.now position in
    let text = string_bytes c.in_ok-text.text in
    let within = within_texts c.args.words.now position c.loop-position-test.true in
    let so_far = c.loop-position.invariant.0 in
    let old = g.W.Output.contents c.args.out.now in
    let middle = g.W.Output.contents c.loop-position.out in
    let later = g.W.Output.contents c.write_text-in-loop-position.new.self in
    let new = g.W.Output.contents c.write_text-in-loop-position-2.new.self in
    let right : answers word text
    = by_same c.args.questions.now word text c.loop-position.context c.args.context.now c.loop-position.invariant.1.0
    c.loop-position.invariant.1.1 c.in_ok-text.ensures.text in
    words_end_early answers style words old new c.from_residual-in_err-write_text-3.result
    c.from_residual-in_err-write_text-3.ensures.0
    (word_ends answers style words position word text old middle new within
    (is_word_at c.args.words.now position c.loop-position-test.true) so_far right
    (goes_amid text (list_end style)
    (goes_on later (separator style (position == 0)) (text ++ list_end style)
    (word_left answers style words position text old middle within so_far)
    (rw (sym c.separator.ensures) c.in_ok-write_text-2.ensures.text))
    (rw (sym c.as_str.ensures.value) c.in_err-write_text-3.ensures.text)))

pub loop-position-preserved : goal.loop-position-preserved
unfolding word_at
loop-position-preserved g c =
    let answers = AnswersText c.args.questions.now (AreFramesAt c.args.context.now.known c.args.context.now.flags) in
    let style = c.args.questions.now.options.now.printer.style in
    let words = map (λ word. word.now) c.args.words.now in
    let position = c.loop-position.position in
    let word = word_at c.args.words.now position in
    let text = string_bytes c.in_ok-text.text in
    let within = within_texts c.args.words.now position c.loop-position-test.true in
    let right : answers word text
    = by_same c.args.questions.now word text c.loop-position.context c.args.context.now c.loop-position.invariant.1.0
    c.loop-position.invariant.1.1 c.in_ok-text.ensures.text in (
      word_more answers style words position word text (g.W.Output.contents c.args.out.now)
          (g.W.Output.contents c.loop-position.out) (g.W.Output.contents c.write_text-in-loop-position.new.self)
          (g.W.Output.contents c.write_text-in-loop-position-2.new.self) within
          (is_word_at c.args.words.now position c.loop-position-test.true) c.loop-position.invariant.0 right
          (rw (sym c.separator.ensures) c.in_ok-write_text-2.ensures.text)
          (rw (sym c.as_str.ensures.value) c.in_ok-write_text-3.ensures.text),
      (
        c.in_ok-text.ensures.known ∙ c.loop-position.invariant.1.0,
        c.in_ok-text.ensures.flags ∙ c.loop-position.invariant.1.1,
      ),
      c.in_ok-write_text-3.ensures.takes ∙ (c.in_ok-write_text-2.ensures.takes ∙ c.loop-position.invariant.2),
    )

pub returns-clause-answer : goal.returns-clause-answer
returns-clause-answer g c =
    let answers = AnswersText c.args.questions.now (AreFramesAt c.args.context.now.known c.args.context.now.flags) in
    let style = c.args.questions.now.options.now.printer.style in
    let words = map (λ word. word.now) c.args.words.now in
    let position = c.loop-position.position in
    let behind : length words ≤ position = omega (
      arith,
      c.loop-position-test.false,
      length-map c.args.words.now (λ (word : Bor (List ℕ)). word.now),
    ) in
    words_end answers style words (g.W.Output.contents c.args.out.now) (g.W.Output.contents c.loop-position.out)
    (g.W.Output.contents c.write_text-2.new.self) c.write_text-2.result
    (subst (λ asked. Answered answers (front_text style) asked (g.W.Output.contents c.args.out.now)
    (g.W.Output.contents c.loop-position.out)) (take_all position words behind) c.loop-position.invariant.0)
    (rw (sym c.list_end.ensures) c.write_text-2.ensures.text)
