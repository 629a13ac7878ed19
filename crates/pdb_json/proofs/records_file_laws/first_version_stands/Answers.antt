use Rattle.pdb_json.specs.RecordsFile.{records_of_files}
use Rattle.pdb_json.specs.Json.{json_of}
use Rattle.pdb_json.proofs.FirstVersionLemmas.{stands}
use Rattle.pdb_json.proofs.records_file_laws.first_version_stands.Goals as goal

pub returns : goal.returns
unfolding records_of_files
returns c = λ bytes first. stands (json_of bytes) first
