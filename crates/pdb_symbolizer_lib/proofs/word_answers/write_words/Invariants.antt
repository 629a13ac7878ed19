-- The words so far are answered.
use Rattle.std.proofs.Common.{◌≡◌, map, take}
use Rattle.pdb_symbolizer_lib.specs.AnsweredRequests.{AnswersText, AreFramesAt}
use Rattle.pdb_symbolizer_lib.specs.AnswersInOrder.{Answered}
use Rattle.pdb_symbolizer_lib.proofs.WordAnswerLemmas.{front_text}
use Rattle.pdb_symbolizer_lib.proofs.word_answers.write_words.Given as goal

abbrev pub invariant-loop-position : goal.invariant-loop-position
invariant-loop-position g l =
    Answered (AnswersText l.questions (AreFramesAt l.fn.context.known l.fn.context.flags))
    (front_text l.questions.options.now.printer.style) (take l.position (map (λ word. word.now) l.words))
    (g.W.Output.contents l.fn.out) (g.W.Output.contents l.out)
    × ((l.context.known ≡ l.fn.context.known) × (l.context.flags ≡ l.fn.context.flags))
    × (g.W.Output.takes_all l.out ≡ g.W.Output.takes_all l.fn.out)
