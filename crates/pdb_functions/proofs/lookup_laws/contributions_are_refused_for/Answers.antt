use Rattle.pdb_functions.proofs.MergedLemmas.{refused_for_end, refused_for_fault, refused_for_overlap}
use Rattle.pdb_functions.proofs.lookup_laws.contributions_are_refused_for.Goals as goal

pub returns : goal.returns
returns c = record { end = refused_for_end; fault = refused_for_fault; overlap = refused_for_overlap }
