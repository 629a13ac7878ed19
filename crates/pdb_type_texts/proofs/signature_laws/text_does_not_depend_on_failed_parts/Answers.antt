use Rattle.pdb_type_texts.proofs.AlikeLemmas.{alike-runs}
use Rattle.pdb_type_texts.proofs.signature_laws.text_does_not_depend_on_failed_parts.Goals as goal

pub returns : goal.returns
returns c = alike-runs
