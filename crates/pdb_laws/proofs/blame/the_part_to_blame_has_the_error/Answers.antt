use Rattle.pdb_laws.proofs.BlameLemmas.{blamed, sound}
use Rattle.pdb_laws.proofs.blame.the_part_to_blame_has_the_error.Goals as goal

pub returns : goal.returns
returns c = record { blamed = blamed; sound = sound }
