use Rattle.std.proofs.Common.{◌≡◌, ◌++◌, drop}
use Rattle.pdb_repairs.specs.Intervals.{edges_of}
use Rattle.pdb_repairs.proofs.intervals.edges.Given as goal

-- the edges so far, and those of what is left, are all edges
abbrev pub invariant-loop-claim : goal.invariant-loop-claim
invariant-loop-claim l = l.edges.items ++ edges_of (drop l.claim-index l.claims) ≡ edges_of l.claims
