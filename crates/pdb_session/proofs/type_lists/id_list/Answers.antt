-- The ids of a stream that has bytes.
use Rattle.pdb_session.proofs.ListLemmas.{ids_by_list}
use Rattle.pdb_session.proofs.type_lists.id_list.Goals as goal

pub returns-in-Ok-2-clause-answer : goal.returns-in-Ok-2-clause-answer
returns-in-Ok-2-clause-answer g c =
    rw c.in-Ok.is (ids_by_list _ c.in-Ok.blocks c.len.result c.type_list.result c.len.ensures.said
    c.if-len-eq0.false c.type_list.ensures.answer)
