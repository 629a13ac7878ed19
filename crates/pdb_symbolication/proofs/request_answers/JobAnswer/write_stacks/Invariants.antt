-- What is written, and the stacks that are left, are all that was to be written.
use Rattle.std.proofs.Common.{drop, map}
use Rattle.std.specs.Prelude.{◌==◌}
use Rattle.pdb_symbolication.specs.JsonObjects.{separated}
use Rattle.pdb_symbolication.specs.RequestAnswers.{searched_by, stack_array}
use Rattle.pdb_symbolication.proofs.JsonLemmas.{left}
use Rattle.pdb_symbolication.proofs.WriteLemmas.{Goes}
use Rattle.pdb_symbolication.proofs.request_answers.JobAnswer.write_stacks.Given as goal

abbrev pub invariant-loop-number : goal.invariant-loop-number
invariant-loop-number g l = Goes (g.W.Write.contents l.fn.out) (g.W.Write.contents l.out)
    (left (l.number == 0) (map (stack_array (searched_by l.self)) (drop l.number l.self.job.now.stacks.items)))
    (separated (map (stack_array (searched_by l.self)) l.self.job.now.stacks.items))
