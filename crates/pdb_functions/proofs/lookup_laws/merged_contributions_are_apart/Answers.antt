use Rattle.pdb_functions.proofs.MergedLemmas.{merged_apart}
use Rattle.pdb_functions.proofs.lookup_laws.merged_contributions_are_apart.Goals as goal

pub returns : goal.returns
returns c = merged_apart
