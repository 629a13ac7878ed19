use Rattle.pdb_frames.proofs.LentNameLemmas.{lent_none, lent_nowhere}
use Rattle.pdb_frames.proofs.lent_names.no_names.Goals as goal

pub loop-init : goal.loop-init
loop-init c strings = lent_none strings c.in_ok-slots.slots.items c.in_ok-slots.ensures.items

pub loop-preserved : goal.loop-preserved
loop-preserved c strings = rw c.in_ok-push.ensures.items
    (lent_nowhere strings c.loop.slots.items (c.loop.invariant strings))
