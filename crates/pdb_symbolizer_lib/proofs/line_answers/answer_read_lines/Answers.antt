-- A line more is answered.
use Rattle.std.proofs.Common.{◌≡◌, ◌∙◌, ℕ, List, false, refl, subst, sym}
use Rattle.pdb_session.specs.Session.{ContextOverPart}
use Rattle.pdb_symbolizer_lib.specs.AnsweredRequests.{AnswersText, AreFramesAt, AreFramesOver, asks_more}
use Rattle.pdb_symbolizer_lib.specs.declared.questions.Questions.{Questions}
use Rattle.pdb_symbolizer_lib.proofs.AnsweredTextLemmas.{text_over}
use Rattle.pdb_symbolizer_lib.proofs.LineAnswerLemmas.{answered_first_too, answered_too, ends_early, line_ends}
use Rattle.pdb_symbolizer_lib.proofs.LineAnswerLemmas.{line_last, line_more, no_lines}
use Rattle.pdb_symbolizer_lib.proofs.line_answers.answer_read_lines.Goals as goal

-- an answer by a context for which nothing is still to be read is right over all, by the context at first too
over_all : (questions : Questions) (here there : ContextOverPart) (line text : List ℕ) → here.known ≡ there.known
    → here.flags ≡ there.flags → asks_more here.known questions line ≡ false
    → AnswersText questions (AreFramesAt here.known here.flags) line text
    → AnswersText questions (AreFramesOver there.known there.flags) line text
over_all questions here there line text known flags enough answer =
    subst (λ known. AnswersText questions (AreFramesOver known there.flags) line text) known
    (subst (λ flags. AnswersText questions (AreFramesOver here.known flags) line text) flags
    (text_over here.known here.flags questions line text enough answer))

pub loop-init : goal.loop-init
loop-init g c = (
  no_lines c.args.questions.now.options.now.printer.style c.args.queue.now
      (g.W.Output.contents c.args.out.now),
  (refl, refl),
  refl,
)

pub returns-in_err-answer_line-in-Some-clause-answer : goal.returns-in_err-answer_line-in-Some-clause-answer
returns-in_err-answer_line-in-Some-clause-answer g c =
    let questions = c.args.questions.now in
    let style = questions.options.now.printer.style in
    let first = c.args.context.now in
    let enough : asks_more c.loop.context.known questions c.in-Some.line.now ≡ false
    = sym c.needs_more.ensures ∙ c.if-not-needs_more.true in
    let old = g.W.Output.contents c.args.out.now in
    let new = g.W.Output.contents c.answer_line.new.out in
    ends_early (AnswersText questions (AreFramesOver first.known first.flags)) style c.args.queue.now c.loop.queue
    old new c.from_residual.result c.from_residual.ensures.0
    (line_ends style c.args.queue.now c.loop.queue c.in-Some.line.now old (g.W.Output.contents c.loop.out) new
    c.loop.invariant.0 c.in-Some.ensures.some
    (answered_first_too c.in-Some.line.now
    (λ text answer. over_all questions c.loop.context first c.in-Some.line.now text c.loop.invariant.1.0
    c.loop.invariant.1.1 enough answer)
    c.in_err-answer_line-in-Some.ensures.answer))

pub returns-in_err-pass-clause-answer : goal.returns-in_err-pass-clause-answer
returns-in_err-pass-clause-answer g c =
    let questions = c.args.questions.now in
    let style = questions.options.now.printer.style in
    let first = c.args.context.now in
    let enough : asks_more c.loop.context.known questions c.in-Some.line.now ≡ false
    = sym c.needs_more.ensures ∙ c.if-not-needs_more.true in
    let old = g.W.Output.contents c.args.out.now in
    let new = g.W.Output.contents c.answer_line.new.out in
    ends_early (AnswersText questions (AreFramesOver first.known first.flags)) style c.args.queue.now
    c.pass.new.self old new c.from_residual-in_err-pass.result c.from_residual-in_err-pass.ensures.0
    (line_last style c.args.queue.now c.loop.queue c.in-Some.line.now old (g.W.Output.contents c.loop.out) new
    c.loop.invariant.0 c.in-Some.ensures.some
    (answered_too c.in-Some.line.now
    (λ text answer. over_all questions c.loop.context first c.in-Some.line.now text c.loop.invariant.1.0
    c.loop.invariant.1.1 enough answer)
    c.in_ok-answer_line-in-Some.ensures.answer))

pub loop-preserved : goal.loop-preserved
loop-preserved g c =
    let questions = c.args.questions.now in
    let first = c.args.context.now in
    let enough : asks_more c.loop.context.known questions c.in-Some.line.now ≡ false
    = sym c.needs_more.ensures ∙ c.if-not-needs_more.true in (
      line_more questions.options.now.printer.style c.args.queue.now c.loop.queue c.pass.new.self
          c.in-Some.line.now (g.W.Output.contents c.args.out.now) (g.W.Output.contents c.loop.out)
          (g.W.Output.contents c.answer_line.new.out) c.loop.invariant.0 c.in-Some.ensures.some c.in_ok-pass.ensures.state
          (answered_too c.in-Some.line.now
          (λ text answer. over_all questions c.loop.context first c.in-Some.line.now text c.loop.invariant.1.0
          c.loop.invariant.1.1 enough answer)
          c.in_ok-answer_line-in-Some.ensures.answer),
      (
        c.in_ok-answer_line-in-Some.ensures.known ∙ c.loop.invariant.1.0,
        c.in_ok-answer_line-in-Some.ensures.flags ∙ c.loop.invariant.1.1,
      ),
      c.in_ok-answer_line-in-Some.ensures.takes ∙ c.loop.invariant.2,
    )
