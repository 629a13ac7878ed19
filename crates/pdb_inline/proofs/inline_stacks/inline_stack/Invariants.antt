use Rattle.std.proofs.Common.{◌≡◌, ◌-◌, ◌<◌, ◌++◌, ℕ, true, vec_len}
use Rattle.pdb_inline.specs.InlineStacks.{has_range_over, depths, stack_from, inline_stack}
use Rattle.pdb_inline.proofs.inline_stacks.inline_stack.Given as goal

-- the stack so far, and what follows from its depth on, is the whole stack; at each depth of the stack so far ranges
-- lie over the offset
abbrev pub invariant-loop-range : goal.invariant-loop-range
invariant-loop-range l = record {
  whole : l.stack.items ++ stack_from (depths l.ranges - vec_len l.stack) l.ranges l.offset (vec_len l.stack)
      ≡ inline_stack l.ranges l.offset;
  over : (d : ℕ) → d < vec_len l.stack → has_range_over l.ranges d l.offset ≡ true;
}

-- how many depths are left
abbrev pub decreases-loop-range : goal.decreases-loop-range
decreases-loop-range l = depths l.ranges - vec_len l.stack
