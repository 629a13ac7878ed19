-- What is written, and the jobs that are left, are all that was to be written.
use Rattle.std.proofs.Common.{drop}
use Rattle.std.specs.Prelude.{◌==◌}
use Rattle.pdb_symbolication.specs.JsonObjects.{separated}
use Rattle.pdb_symbolication.specs.RequestAnswers.{job_answers}
use Rattle.pdb_symbolication.proofs.JsonLemmas.{left}
use Rattle.pdb_symbolication.proofs.WriteLemmas.{Goes}
use Rattle.pdb_symbolication.proofs.request_answers.write_jobs.Given as goal

abbrev pub invariant-loop-number : goal.invariant-loop-number
invariant-loop-number g l = Goes (g.W.Write.contents l.fn.out) (g.W.Write.contents l.out)
    (left (l.number == 0) (job_answers l.wanted l.found l.number (drop l.number l.request.jobs.items)))
    (separated (job_answers l.wanted l.found 0 l.request.jobs.items))
