use Rattle.std.proofs.Common.{refl}
use Rattle.pdb_known.proofs.AllReadLemmas.{part_of_itself, lacks_nothing}
use Rattle.pdb_known.proofs.known_answers.all_records_are_known.Goals as goal

pub returns : goal.returns
returns c = record { part = part_of_itself; closed = λ records. refl; lacks_nothing = lacks_nothing }
