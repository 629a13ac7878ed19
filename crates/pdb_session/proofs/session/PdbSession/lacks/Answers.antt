-- By the owners that the session keeps.
use Rattle.std.proofs.Common.{◌∙◌, ap}
use Rattle.pdb_session.proofs.OwnerLemmas.{kept_lacking}
use Rattle.pdb_session.specs.Session.{SessionFile}
use Rattle.pdb_session.proofs.session.PdbSession.lacks.Goals as goal

pub returns : goal.returns
returns g c = c.is_lacking.ensures ∙ kept_lacking _ _ _ _ (ap (λ (s : SessionFile). s.known) c.self.view_is)
    c.self.invariant.owners
