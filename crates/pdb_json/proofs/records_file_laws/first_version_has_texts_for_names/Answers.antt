use Rattle.pdb_json.proofs.FirstVersionLemmas.{names_are_texts}
use Rattle.pdb_json.proofs.records_file_laws.first_version_has_texts_for_names.Goals as goal

pub returns : goal.returns
returns c = λ d. names_are_texts d
