use Rattle.pdb_types.proofs.ChainLemmas.{type_size-at_end}
use Rattle.pdb_types.proofs.size_laws.chains_that_end_have_the_size_at_their_end.Goals as goal

pub returns : goal.returns
returns c = type_size-at_end
