-- The source says what it said.
use Rattle.std.proofs.Common.{◌≡◌}
use Rattle.pdb_session.proofs.reachable_types.ReachableTypes.follow_steps.Given as goal

abbrev pub invariant-loop : goal.invariant-loop
invariant-loop g l = g.S.Source.bytes l.source ≡ g.S.Source.bytes l.fn.source
