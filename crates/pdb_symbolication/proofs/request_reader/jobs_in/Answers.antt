-- What is read of the member, seen from around it.
use Rattle.std.proofs.Common.{Global, Vec, codes, map, subst}
use Rattle.serde_json.specs.Data.{Data}
use Rattle.pdb_json_values.specs.RecordFault.{AgreesBy, read_inside}
use Rattle.pdb_symbolication.specs.RequestValues.{job_seen, jobs_of}
use Rattle.pdb_symbolication.specs.declared.requests.Job.{Job}
use Rattle.pdb_symbolication.proofs.RequestLemmas.{agrees_inside}
use Rattle.pdb_symbolication.proofs.request_reader.jobs_in.Goals as goal

pub returns : goal.returns
returns c =
    subst (λ (d : Data). AgreesBy (λ (all : Vec Job Global). map job_seen all.items) c.inside.result
    (read_inside (codes "jobs") (jobs_of d))) c.member.ensures
    (agrees_inside (λ (all : Vec Job Global). map job_seen all.items) (codes "jobs") c.jobs_of-jobs.result
    c.inside.result _ c.inside.ensures c.jobs_of-jobs.ensures)
