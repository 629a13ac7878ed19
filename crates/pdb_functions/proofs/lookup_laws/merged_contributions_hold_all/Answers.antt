use Rattle.pdb_functions.proofs.MergedLemmas.{merged_hold_claims, merged_begin, merged_end}
use Rattle.pdb_functions.proofs.lookup_laws.merged_contributions_hold_all.Goals as goal

pub returns : goal.returns
returns c = record { all = merged_hold_claims; begin = merged_begin; end = merged_end }
