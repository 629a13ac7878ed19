-- The lines that a context over what was read answers are answered over the file.
use Rattle.std.proofs.Common.{◌∙◌, subst, sym}
use Rattle.pdb_session.specs.FileParts.{IsPartOfFile}
use Rattle.pdb_symbolizer_lib.specs.AnsweredRequests.{AnswersText, AreFramesOver}
use Rattle.pdb_symbolizer_input.specs.NameOptions.{flags_of}
use Rattle.pdb_symbolizer_lib.specs.FileRuns.{AnswersOfFile}
use Rattle.pdb_symbolizer_lib.proofs.AnsweredTextLemmas.{text_of_file}
use Rattle.pdb_symbolizer_lib.proofs.FileAnswerLemmas.{lines_better, none_of_lines}
use Rattle.pdb_symbolizer_lib.proofs.LineAnswerLemmas.{ends_early}
use Rattle.pdb_symbolizer_lib.proofs.line_answers.answer_lines.Goals as goal

pub returns-in_err-data-clause-answer : goal.returns-in_err-data-clause-answer
returns-in_err-data-clause-answer g c =
    let questions = c.args.questions.now in
    let style = questions.options.now.printer.style in
    let answers = AnswersOfFile questions c.args.input.now.session in
    let held = g.W.Output.contents c.args.out.now in
    ends_early answers style c.args.queue.now c.args.queue.now held held c.from_residual.result
    c.from_residual.ensures.0 (none_of_lines answers style c.args.queue.now held)

pub returns-in_err-context-clause-answer : goal.returns-in_err-context-clause-answer
returns-in_err-context-clause-answer g c =
    let questions = c.args.questions.now in
    let style = questions.options.now.printer.style in
    let answers = AnswersOfFile questions c.args.input.now.session in
    let held = g.W.Output.contents c.args.out.now in
    ends_early answers style c.args.queue.now c.args.queue.now held held c.from_residual-in_err-context.result
    c.from_residual-in_err-context.ensures.0 (none_of_lines answers style c.args.queue.now held)

pub returns-clause-answer : goal.returns-clause-answer
returns-clause-answer g c =
    let questions = c.args.questions.now in
    let session = c.args.input.now.session in
    let flags = flags_of questions.options.now.printer.names in
    let known = c.in_ok-context.context.known in
    let part : IsPartOfFile known session.bytes session.file_length
    = subst (λ known. IsPartOfFile known session.bytes session.file_length) (sym c.in_ok-context.ensures.known)
    c.in_ok-data.ensures.file in
    let same = c.in_ok-context.ensures.flags ∙ c.flags.ensures in
    lines_better (AnswersText questions (AreFramesOver known c.in_ok-context.context.flags))
    (AnswersOfFile questions session) questions.options.now.printer.style c.args.queue.now
    c.answer_read_lines.new.queue (g.W.Output.contents c.args.out.now)
    (g.W.Output.contents c.answer_read_lines.new.out) c.answer_read_lines.result
    (λ asked text answer. text_of_file session known flags questions asked text part
    (subst (λ flags. AnswersText questions (AreFramesOver known flags) asked text) same answer))
    c.answer_read_lines.ensures.answer
