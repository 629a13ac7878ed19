-- By the lemma.
use Rattle.pdb_repair_laws.proofs.ReturnedLemmas.{told_in_turn}
use Rattle.pdb_repair_laws.proofs.returned_repairs.calls_in_turn_return_what_one_returns.Goals as goal

pub returns : goal.returns
returns c = told_in_turn
