use Rattle.std.proofs.Common.{ap}
use Rattle.std.specs.Prelude.{unwrap_or}
use Rattle.serde_json.specs.Data.{null}
use Rattle.pdb_json.proofs.MemberLemmas.{nothing_under}
use Rattle.pdb_json.proofs.records_file_laws.absent_members_are_null.Goals as goal

pub returns-clause-absent : goal.returns-clause-absent
returns-clause-absent t c = λ read name d is. nothing_under read name d (ap (λ found. unwrap_or found null) is)

pub returns-clause-is_null : goal.returns-clause-is_null
returns-clause-is_null t c = λ read name d is. nothing_under read name d (ap (λ found. unwrap_or found null) is)
