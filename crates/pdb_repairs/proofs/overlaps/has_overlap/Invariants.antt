use Rattle.std.proofs.Common.{◌≡◌, drop}
use Rattle.pdb_repairs.specs.Overlaps.{overlaps}
use Rattle.pdb_repairs.proofs.overlaps.has_overlap.Given as goal

-- whether what is left overlaps, from here on, is whether all claims do
abbrev pub invariant-loop-claim : goal.invariant-loop-claim
invariant-loop-claim l = overlaps l.reach l.module_index (drop l.claim-index l.claims) ≡ overlaps 0 0 l.claims
