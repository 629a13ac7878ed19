-- What is written, and the frames that are left, are all that was to be written.
use Rattle.std.proofs.Common.{drop}
use Rattle.std.specs.Prelude.{◌==◌}
use Rattle.pdb_symbolication.specs.JsonObjects.{separated}
use Rattle.pdb_symbolication.specs.RequestAnswers.{frame_objects, searched_by}
use Rattle.pdb_symbolication.proofs.JsonLemmas.{left}
use Rattle.pdb_symbolication.proofs.WriteLemmas.{Goes}
use Rattle.pdb_symbolication.proofs.request_answers.JobAnswer.write_frames.Given as goal

abbrev pub invariant-loop-number : goal.invariant-loop-number
invariant-loop-number g l = Goes (g.W.Write.contents l.fn.out) (g.W.Write.contents l.out)
    (left (l.number == 0) (frame_objects (searched_by l.self) l.number (drop l.number l.stack.frames.items)))
    (separated (frame_objects (searched_by l.self) 0 l.stack.frames.items))
