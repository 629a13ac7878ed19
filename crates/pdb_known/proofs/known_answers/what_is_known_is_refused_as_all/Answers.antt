use Rattle.pdb_known.proofs.RefusalLemmas.{contexts_refused}
use Rattle.pdb_known.proofs.known_answers.what_is_known_is_refused_as_all.Goals as goal

pub returns : goal.returns
returns c = record { refusals = contexts_refused }
