use Rattle.pdb_type_texts.proofs.UnfoldingLemmas.{inside-refused}
use Rattle.pdb_type_texts.proofs.signature_laws.an_index_inside_itself_is_circular.Goals as goal

pub returns : goal.returns
returns c = λ link_inputs types ids pointer flags module_index. inside-refused _
