use Rattle.pdb_json.proofs.MemberLemmas.{passed_over}
use Rattle.pdb_json.proofs.records_file_laws.other_members_change_nothing.Goals as goal

pub returns : goal.returns
returns t c = λ read name other value members differs. passed_over read name other value members differs
