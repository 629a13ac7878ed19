use Rattle.std.proofs.Common.{◌∙◌}
use Rattle.pdb_tables.proofs.SlotLemmas.{held_more}
use Rattle.pdb_tables.proofs.slots.make_slot.Goals as goal

pub loop-slots-preserved : goal.loop-slots-preserved
loop-slots-preserved g c other =
    rw c.in_ok-push.ensures.items (held_more c.loop-slots.slots.items other) ∙ c.loop-slots.invariant other
