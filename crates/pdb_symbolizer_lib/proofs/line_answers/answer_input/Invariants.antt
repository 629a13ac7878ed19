-- The lines that were taken are answered over the same file.
use Rattle.std.proofs.Common.{◌≡◌}
use Rattle.pdb_session.specs.Session.{SameFile}
use Rattle.pdb_symbolizer_lib.specs.AnswersInOrder.{AnsweredLines}
use Rattle.pdb_symbolizer_lib.specs.FileRuns.{AnswersOfFile}
use Rattle.pdb_symbolizer_lib.proofs.line_answers.answer_input.Given as goal

abbrev pub invariant-loop : goal.invariant-loop
invariant-loop g l =
    AnsweredLines (AnswersOfFile l.questions l.fn.input.session) l.questions.options.now.printer.style l.fn.queue
    l.queue (g.W.Output.contents l.fn.out) (g.W.Output.contents l.out)
    × SameFile l.fn.input.session l.input.session
    × ((l.input.path ≡ l.fn.input.path) × (g.W.Output.takes_all l.out ≡ g.W.Output.takes_all l.fn.out))
