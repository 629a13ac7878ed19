use Rattle.pdb_functions.proofs.MergedLemmas.{merged_apart_from_others, merged_differ}
use Rattle.pdb_functions.proofs.lookup_laws.merged_contributions_hold_no_other_module.Goals as goal

pub returns : goal.returns
returns c = record { apart = merged_apart_from_others; differ = merged_differ }
