use Rattle.pdb_type_texts.proofs.DocumentLemmas.{document-unfolds}
use Rattle.pdb_type_texts.proofs.UnfoldingLemmas.{print_inputs-below}
use Rattle.pdb_type_texts.proofs.signature_laws.the_document_of_an_id_is_what_it_unfolds_to.Goals as goal

pub returns : goal.returns
returns c = λ link_inputs types ids pointer flags module_index index.
    document-unfolds _ (print_inputs-below link_inputs types ids pointer flags module_index) _
