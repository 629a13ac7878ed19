-- By induction on the entries.
use Rattle.pe_unwind.proofs.LeafLemmas.{runs_have_uncovered}
use Rattle.pe_unwind.proofs.leaf_code.runs_have_what_no_entry_covers.Goals as goal

pub returns : goal.returns
returns c = runs_have_uncovered
