-- The jobs that were read, and those that are left, say what the array does.
use Rattle.std.proofs.Common.{◌≡◌, drop, map}
use Rattle.serde_json.specs.View.{items_view}
use Rattle.pdb_symbolication.specs.RequestValues.{elements_from, job_of, job_seen}
use Rattle.pdb_symbolication.proofs.RequestLemmas.{after}
use Rattle.pdb_symbolication.proofs.request_reader.jobs_of.Given as goal

abbrev pub invariant-loop-number : goal.invariant-loop-number
invariant-loop-number l =
    elements_from 0 job_of (items_view l.values)
    ≡ after (map job_seen l.jobs.items) (elements_from l.number job_of (items_view (drop l.number l.values)))
