use Rattle.pdb_type_texts.proofs.UnfoldingLemmas.{scope-refused}
use Rattle.pdb_type_texts.proofs.signature_laws.a_scope_that_repeats_is_circular.Goals as goal

pub returns : goal.returns
returns c = scope-refused
