-- What is read of the element, seen from around it.
use Rattle.std.proofs.Common.{decimal}
use Rattle.pdb_symbolication.specs.RequestValues.{job_seen}
use Rattle.pdb_symbolication.proofs.RequestLemmas.{agrees_inside}
use Rattle.pdb_symbolication.proofs.request_reader.job_at.Goals as goal

pub returns : goal.returns
returns c =
    agrees_inside job_seen (decimal c.args.number) c.job_of.result c.inside_element.result _
    c.inside_element.ensures c.job_of.ensures
