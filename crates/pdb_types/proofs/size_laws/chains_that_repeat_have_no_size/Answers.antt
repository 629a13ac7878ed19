use Rattle.pdb_types.proofs.PassedLemmas.{type_size-repeats}
use Rattle.pdb_types.proofs.size_laws.chains_that_repeat_have_no_size.Goals as goal

pub returns : goal.returns
returns c = type_size-repeats
