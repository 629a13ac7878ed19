use Rattle.pdb_json.proofs.MemberLemmas.{in_member, in_element}
use Rattle.pdb_json.proofs.records_file_laws.paths_lead_to_their_faults.Goals as goal

pub returns-clause-through_members : goal.returns-clause-through_members
returns-clause-through_members t c = λ read name d fault is. in_member read name d fault is

pub returns-clause-through_elements : goal.returns-clause-through_elements
returns-clause-through_elements t c = λ read first elements fault is. in_element read first elements fault is
