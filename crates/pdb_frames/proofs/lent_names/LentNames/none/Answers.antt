use Rattle.pdb_frames.proofs.LentNameLemmas.{lent_none}
use Rattle.pdb_frames.proofs.lent_names.LentNames.none.Goals as goal

pub returns : goal.returns
returns c strings = lent_none strings c.new.result.items c.new.ensures.items
