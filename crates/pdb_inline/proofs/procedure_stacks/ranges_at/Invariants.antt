use Rattle.std.proofs.Common.{◌≡◌, ◌++◌, drop}
use Rattle.pdb_inline.specs.StackTable.{ranges_at}
use Rattle.pdb_inline.proofs.procedure_stacks.ranges_at.Given as goal

-- the ranges so far, and those at the positions that are left, are those at all
abbrev pub invariant-loop-position : goal.invariant-loop-position
invariant-loop-position l = l.found.items ++ ranges_at l.ranges (drop l.position-index l.positions)
    ≡ ranges_at l.ranges l.positions
