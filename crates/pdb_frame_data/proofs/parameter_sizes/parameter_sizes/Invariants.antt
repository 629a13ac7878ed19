-- With those of the entries that are left, the sizes are those of all entries.
use Rattle.std.proofs.Common.{◌≡◌, ◌++◌, drop, map}
use Rattle.pdb_frame_data.specs.ParameterSizes.{frame_data_segment, parameter_sizes}
use Rattle.pdb_frame_data.proofs.parameter_sizes.parameter_sizes.Given as goal

abbrev pub invariant-loop-entry : goal.invariant-loop-entry
invariant-loop-entry l = parameter_sizes l.fpo l.frame_data
    ≡ l.sizes.items ++ map frame_data_segment (drop l.entry-index l.frame_data)
