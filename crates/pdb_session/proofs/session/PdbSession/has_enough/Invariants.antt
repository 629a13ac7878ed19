-- Nothing is needed at any address exactly if nothing is at those that are left.
use Rattle.std.proofs.Common.{◌≡◌, drop}
use Rattle.pdb_session.specs.Session.{needs_none}
use Rattle.pdb_session.proofs.session.PdbSession.has_enough.Given as goal

abbrev pub invariant-loop-address : goal.invariant-loop-address
invariant-loop-address g l =
    needs_none l.self.known l.addresses ≡ needs_none l.self.known (drop l.address-index l.addresses)
