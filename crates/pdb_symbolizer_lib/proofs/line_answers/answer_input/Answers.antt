-- The lines that are ready are answered, once what they ask for is read.
use Rattle.std.proofs.Common.{◌≡◌, ◌∙◌, [], refl, false}
use Rattle.std.specs.Prelude.{Option, Some, None, IfNone, IfSome, is_some}
use Rattle.pdb_session.specs.Session.{SameFile, SessionFile}
use Rattle.pdb_symbolizer_input.specs.NameOptions.{flags_of}
use Rattle.pdb_symbolizer_lib.specs.FileRuns.{AnswersOfFile}
use Rattle.pdb_symbolizer_lib.proofs.FileAnswerLemmas.{first_lines_better, lines_end, lines_more, lines_stop}
use Rattle.pdb_symbolizer_lib.proofs.FileAnswerLemmas.{lines_stop_amid, same_file_text, stops_early, taken_lines_better}
use Rattle.pdb_symbolizer_lib.proofs.LineAnswerLemmas.{no_lines}
use Rattle.pdb_symbolizer_lib.proofs.line_answers.answer_input.Goals as goal

-- the same file, twice
same_still : (first middle last : SessionFile) → SameFile first middle → SameFile middle last → SameFile first last
same_still first middle last one two = (two.0 ∙ one.0, two.1 ∙ one.1)

-- what is said of no line holds where there is none
none_said : {X : Type 0} (P : Type 0) (found : Option X) → is_some found ≡ false → IfNone found P → P
none_said P None none said = said
none_said P (Some line) none said = absurd (cc)

pub loop-init : goal.loop-init
loop-init g c = (
  no_lines c.args.questions.now.options.now.printer.style c.args.queue.now
      (g.W.Output.contents c.args.out.now),
  (refl, refl),
  (refl, refl),
)

pub returns-in_err-addresses-clause-answer : goal.returns-in_err-addresses-clause-answer
returns-in_err-addresses-clause-answer g c =
    let answers = AnswersOfFile c.args.questions.now c.args.input.now.session in
    let style = c.args.questions.now.options.now.printer.style in
    let old = g.W.Output.contents c.args.out.now in
    let new = g.W.Output.contents c.loop.out in
    stops_early answers style c.args.queue.now old new c.from_residual.result c.from_residual.ensures.0
    (lines_stop answers style c.args.queue.now c.loop.queue old new c.loop.invariant.0)

pub returns-in_err-read_for-clause-answer : goal.returns-in_err-read_for-clause-answer
returns-in_err-read_for-clause-answer g c =
    let answers = AnswersOfFile c.args.questions.now c.args.input.now.session in
    let style = c.args.questions.now.options.now.printer.style in
    let old = g.W.Output.contents c.args.out.now in
    let new = g.W.Output.contents c.loop.out in
    stops_early answers style c.args.queue.now old new c.from_residual-in_err-read_for.result
    c.from_residual-in_err-read_for.ensures.0
    (lines_stop answers style c.args.queue.now c.loop.queue old new c.loop.invariant.0)

pub returns-in_err-answer_lines-clause-answer : goal.returns-in_err-answer_lines-clause-answer
returns-in_err-answer_lines-clause-answer g c =
    let questions = c.args.questions.now in
    let first = c.args.input.now.session in
    let here = c.read_for.new.self.session in
    let answers = AnswersOfFile questions first in
    let style = questions.options.now.printer.style in
    let flags = flags_of questions.options.now.printer.names in
    let same = same_still first c.loop.input.session here c.loop.invariant.1 c.read_for.ensures.file in
    let old = g.W.Output.contents c.args.out.now in
    let middle = g.W.Output.contents c.loop.out in
    let new = g.W.Output.contents c.answer_lines.new.out in
    stops_early answers style c.args.queue.now old new c.from_residual-in_err-answer_lines.result
    c.from_residual-in_err-answer_lines.ensures.0
    (lines_stop_amid answers style c.args.queue.now c.loop.queue old middle new c.loop.invariant.0
    (first_lines_better (AnswersOfFile questions here) answers style c.loop.queue middle new
    (λ asked text answer. same_file_text first here flags questions asked text same answer)
    c.in_err-answer_lines.ensures.answer))

pub returns-then-is_none-clause-answer : goal.returns-then-is_none-clause-answer
returns-then-is_none-clause-answer g c =
    let questions = c.args.questions.now in
    let first = c.args.input.now.session in
    let here = c.read_for.new.self.session in
    let answers = AnswersOfFile questions first in
    let style = questions.options.now.printer.style in
    let flags = flags_of questions.options.now.printer.names in
    let same = same_still first c.loop.input.session here c.loop.invariant.1 c.read_for.ensures.file in
    let old = g.W.Output.contents c.args.out.now in
    let middle = g.W.Output.contents c.loop.out in
    let new = g.W.Output.contents c.answer_lines.new.out in
    lines_end answers style c.args.queue.now c.answer_lines.new.queue old new
    (lines_more answers style c.args.queue.now c.loop.queue c.answer_lines.new.queue old middle new c.loop.invariant.0
    (taken_lines_better (AnswersOfFile questions here) answers style c.loop.queue c.answer_lines.new.queue middle new
    (λ asked text answer. same_file_text first here flags questions asked text same answer)
    c.in_ok-answer_lines.ensures.answer))
    (none_said (IfSome c.answer_lines.new.queue (λ all. all ≡ [])) c.first.result c.if-is_none.ensures
    c.first.ensures.none)

pub loop-preserved : goal.loop-preserved
loop-preserved g c =
    let questions = c.args.questions.now in
    let first = c.args.input.now.session in
    let here = c.read_for.new.self.session in
    let answers = AnswersOfFile questions first in
    let style = questions.options.now.printer.style in
    let flags = flags_of questions.options.now.printer.names in
    let same = same_still first c.loop.input.session here c.loop.invariant.1 c.read_for.ensures.file in
    let old = g.W.Output.contents c.args.out.now in
    let middle = g.W.Output.contents c.loop.out in
    let new = g.W.Output.contents c.answer_lines.new.out in (
      lines_more answers style c.args.queue.now c.loop.queue c.answer_lines.new.queue old middle new c.loop.invariant.0
          (taken_lines_better (AnswersOfFile questions here) answers style c.loop.queue c.answer_lines.new.queue middle new
          (λ asked text answer. same_file_text first here flags questions asked text same answer)
          c.in_ok-answer_lines.ensures.answer),
      same,
      (
        c.read_for.ensures.path ∙ c.loop.invariant.2.0,
        c.in_ok-answer_lines.ensures.takes ∙ c.loop.invariant.2.1,
      ),
    )

pub returns-clause-answer : goal.returns-clause-answer
returns-clause-answer g c =
    let answers = AnswersOfFile c.args.questions.now c.args.input.now.session in
    let style = c.args.questions.now.options.now.printer.style in
    lines_stop answers style c.args.queue.now c.loop.queue (g.W.Output.contents c.args.out.now)
    (g.W.Output.contents c.loop.out) c.loop.invariant.0
