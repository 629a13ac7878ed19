-- The lines that were taken are answered.
use Rattle.std.proofs.Common.{◌≡◌}
use Rattle.pdb_symbolizer_lib.specs.AnsweredRequests.{AnswersText, AreFramesOver}
use Rattle.pdb_symbolizer_lib.specs.AnswersInOrder.{AnsweredLines}
use Rattle.pdb_symbolizer_lib.proofs.line_answers.answer_read_lines.Given as goal

abbrev pub invariant-loop : goal.invariant-loop
invariant-loop g l =
    AnsweredLines (AnswersText l.questions (AreFramesOver l.fn.context.known l.fn.context.flags))
    l.questions.options.now.printer.style l.fn.queue l.queue (g.W.Output.contents l.fn.out) (g.W.Output.contents l.out)
    × ((l.context.known ≡ l.fn.context.known) × (l.context.flags ≡ l.fn.context.flags))
    × (g.W.Output.takes_all l.out ≡ g.W.Output.takes_all l.fn.out)
