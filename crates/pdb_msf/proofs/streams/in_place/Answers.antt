-- One block more: what stands in the file up to its start, and the block, are what stands there up to its end.
use Rattle.std.proofs.Common.{arith}
use Rattle.std.proofs.lemmas.Grind.{common_steps}
use Rattle.pdb_msf.proofs.StreamLemmas.{grown}
use Rattle.pdb_msf.proofs.streams.in_place.Goals as goal

pub loop-number-preserved : goal.loop-number-preserved
loop-number-preserved c = grind (arith, common_steps, grown)
