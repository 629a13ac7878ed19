use Rattle.pdb_type_texts.specs.Unfolding.{done, seq}
use Rattle.pdb_type_texts.proofs.signature_laws.siblings_may_repeat.Goals as goal

pub returns : goal.returns
returns c = λ w inside argument d unfolds. seq unfolds (seq done (seq unfolds done))
