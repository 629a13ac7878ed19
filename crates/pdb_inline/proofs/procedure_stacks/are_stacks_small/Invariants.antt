use Rattle.std.proofs.Common.{◌≡◌, ◌-◌, ◌^◌, min, take}
use Rattle.std.specs.Prelude.{sum_by}
use Rattle.pdb_inline.specs.ProcedureStacks.{bounds_within}
use Rattle.pdb_inline.specs.RangeBounds.{bounds}
use Rattle.pdb_inline.proofs.procedure_stacks.are_stacks_small.Given as goal

-- the positions of the ranges so far are counted
abbrev pub invariant-loop-range : goal.invariant-loop-range
invariant-loop-range l =
    l.count ≡ min (sum_by (bounds_within (bounds l.ranges)) (take l.range-index l.ranges)) (2 ^ 64 - 1)
