use Rattle.std.proofs.Common.{◌≡◌, ◌+◌, ◌-◌, ℕ, length}
use Rattle.pdb_tables.specs.Slots.{held}
use Rattle.pdb_tables.proofs.slots.make_slot.Given as goal

-- with the slots made so far all hold what they held
abbrev pub invariant-loop-slots : goal.invariant-loop-slots
invariant-loop-slots g l = (other : ℕ) → held l.slots.items other ≡ held l.initial.slots.items other

abbrev pub decreases-loop-slots : goal.decreases-loop-slots
decreases-loop-slots g l = (l.position + 1) - length l.slots.items
