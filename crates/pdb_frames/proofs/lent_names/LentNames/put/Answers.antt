use Rattle.pdb_frames.proofs.LentNameLemmas.{lent_put}
use Rattle.pdb_frames.proofs.lent_names.LentNames.put.Goals as goal

pub returns-in-Some-get_mut : goal.returns-in-Some-get_mut
returns-in-Some-get_mut c strings knows are =
    lent_put strings c.args.names.now c.args.self.now.slots.items c.slot_of-slot.result
    (record { number = c.args.number; name = c.in-Some.name }) knows c.in-Some.ensures are
