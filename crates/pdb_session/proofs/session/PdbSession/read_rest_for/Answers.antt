-- Nothing is needed once everything was read.
use Rattle.pdb_session.proofs.PartLemmas.{all_needs_none}
use Rattle.pdb_session.proofs.session.PdbSession.read_rest_for.Goals as goal

pub returns-clause-enough : goal.returns-clause-enough
returns-clause-enough g c = all_needs_none _ _ _ c.in_ok-read_rest.ensures.all
