-- With those of the entries that are left, the sizes are those of all entries.
use Rattle.std.proofs.Common.{◌≡◌, ◌++◌, drop, map}
use Rattle.pdb_frame_data.specs.ParameterSizes.{fpo_segment}
use Rattle.pdb_frame_data.proofs.parameter_sizes.fpo_sizes.Given as goal

abbrev pub invariant-loop-entry : goal.invariant-loop-entry
invariant-loop-entry l = map fpo_segment l.fpo ≡ l.sizes.items ++ map fpo_segment (drop l.entry-index l.fpo)
