use Rattle.std.proofs.Common.{◌≡◌, ◌<◌, ◌≤◌, ℕ, drop, length, None}
use Rattle.pdb_tables.specs.Pick.{pick, later_start}
use Rattle.pdb_inline.specs.InlineStacks.{lies_over}
use Rattle.pdb_inline.specs.PickedSlots.{picked_at}
use Rattle.pdb_inline.proofs.inline_stacks.picked_by_depth.Given as goal

-- at each depth that a stack may reach, what is picked so far, or what is left has to offer, is the pick of all; and
-- nothing is picked from there on
abbrev pub invariant-loop-range : goal.invariant-loop-range
invariant-loop-range l = record {
  picks : (depth : ℕ) → depth < length l.ranges →
      later_start (λ r. r.start_offset) (picked_at l.picked.items depth)
      (pick (lies_over depth l.offset) (λ r. r.start_offset) (drop l.range-index l.ranges))
      ≡ pick (lies_over depth l.offset) (λ r. r.start_offset) l.ranges;
  none : (depth : ℕ) → length l.ranges ≤ depth → picked_at l.picked.items depth ≡ None;
}
