-- Where what was read is closed, by the owners that are lent.
use Rattle.std.proofs.Common.{◌∙◌}
use Rattle.pdb_session.proofs.PartLemmas.{needs_if_lacking}
use Rattle.pdb_session.proofs.session_context.SessionData.needs.Goals as goal

pub returns-then-is_closed : goal.returns-then-is_closed
returns-then-is_closed c =
    c.is_lacking.ensures
    ∙ needs_if_lacking _ _ _ _ _ c.self.view_is c.self.invariant.owners c.self.invariant.closed c.if-is_closed.true
