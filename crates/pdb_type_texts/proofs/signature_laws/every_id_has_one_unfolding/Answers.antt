use Rattle.pdb_type_texts.proofs.DocumentLemmas.{one-unfolding}
use Rattle.pdb_type_texts.proofs.UnfoldingLemmas.{print_inputs-below}
use Rattle.pdb_type_texts.proofs.signature_laws.every_id_has_one_unfolding.Goals as goal

pub returns : goal.returns
returns c = λ link_inputs types ids pointer flags module_index inside met index.
    one-unfolding _ (print_inputs-below link_inputs types ids pointer flags module_index) _
