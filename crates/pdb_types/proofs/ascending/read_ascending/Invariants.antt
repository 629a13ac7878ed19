use Rattle.std.proofs.Common.{◌≡◌, ◌≤◌, take, length, None, ◌-◌}
use Rattle.pdb_types.specs.Ascending.{Ascends, first_numbered}
use Rattle.pdb_types.proofs.ascending.read_ascending.Given as goal

-- the entries that were read ascend, and none has the number
abbrev pub invariant-loop-entry : goal.invariant-loop-entry
invariant-loop-entry g l = record {
  within : l.ascending ≤ length l.entries;
  ascends : Ascends g.T.Numbered.number_of (take l.ascending l.entries);
  absent : first_numbered g.T.Numbered.number_of l.number (take l.ascending l.entries) ≡ None;
}

-- the entries that are left
abbrev pub decreases-loop-entry : goal.decreases-loop-entry
decreases-loop-entry g l = length l.entries - l.ascending
