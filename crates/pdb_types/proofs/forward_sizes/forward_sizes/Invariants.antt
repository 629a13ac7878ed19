use Rattle.std.proofs.Common.{◌≤◌, drop, length}
use Rattle.pdb_types.specs.ForwardReferences.{Defines, Tabulates}
use Rattle.pdb_types.proofs.forward_sizes.forward_sizes.Given as goal

-- the maps have what the entries that were read give
abbrev pub invariant-loop-left : goal.invariant-loop-left
invariant-loop-left l = record {
  within : l.left ≤ length l.items;
  defined : Defines (drop l.left l.items) l.by_name;
  tabulated : Tabulates (drop l.left l.items) l.sizes;
}

-- the entries that are left
abbrev pub decreases-loop-left : goal.decreases-loop-left
decreases-loop-left l = l.left
