use Rattle.pdb_types.proofs.ChainLemmas.{type_size-never}
use Rattle.pdb_types.proofs.size_laws.chains_that_never_end_have_no_size.Goals as goal

pub returns : goal.returns
returns c = type_size-never
