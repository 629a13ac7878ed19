use Rattle.std.proofs.Common.{◌≤◌, take, length, ◌-◌}
use Rattle.pdb_types.specs.Ascending.{Ascends}
use Rattle.pdb_types.proofs.ascending.ascending_length.Given as goal

-- the entries that were read ascend
abbrev pub invariant-loop-ascending : goal.invariant-loop-ascending
invariant-loop-ascending g l = record {
  within : l.ascending ≤ length l.entries;
  ascends : Ascends g.T.Numbered.number_of (take l.ascending l.entries);
}

-- the entries that are left
abbrev pub decreases-loop-ascending : goal.decreases-loop-ascending
decreases-loop-ascending g l = length l.entries - l.ascending
