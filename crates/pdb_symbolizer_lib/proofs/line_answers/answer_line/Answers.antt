-- The text of the answer was written, or a beginning of it.
use Rattle.std.proofs.Common.{◌∷◌, [], string_bytes}
use Rattle.pdb_symbolizer_lib.specs.AnsweredRequests.{AnswersText, AreFramesAt}
use Rattle.pdb_symbolizer_lib.proofs.LineAnswerLemmas.{line_answered, none_answered}
use Rattle.pdb_symbolizer_lib.proofs.line_answers.answer_line.Goals as goal

pub returns-in_err-text-clause-answer : goal.returns-in_err-text-clause-answer
returns-in_err-text-clause-answer g c =
    none_answered (AnswersText c.args.questions.now (AreFramesAt c.args.context.now.known c.args.context.now.flags))
    c.from_residual.result c.args.questions.now.options.now.printer.style (c.args.line.now ∷ [])
    (g.W.Output.contents c.args.out.now) c.from_residual.ensures.0

pub returns-clause-answer : goal.returns-clause-answer
returns-clause-answer g c =
    line_answered (AnswersText c.args.questions.now (AreFramesAt c.args.context.now.known c.args.context.now.flags))
    c.write_line_answer.result c.args.questions.now.options.now.printer.style c.args.line.now
    (string_bytes c.in_ok-text.text) (g.W.Output.contents c.args.out.now)
    (g.W.Output.contents c.write_line_answer.new.out) c.in_ok-text.ensures.text c.write_line_answer.ensures.text
