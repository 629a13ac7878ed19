use Rattle.std.proofs.Common.{sym}
use Rattle.std.proofs.lemmas.List.{append-nil}
use Rattle.pdb_change_points.proofs.MemberLemmas.{same_members}
use Rattle.pdb_change_points.proofs.module_points.add_answer_points.Goals as goal

pub returns-in-Ok : goal.returns-in-Ok
returns-in-Ok c = rw (c.in-Ok.is, ← c.as_ref.ensures.value) c.add_listed_points.ensures

pub returns-in-Err : goal.returns-in-Err
returns-in-Err c = rw c.in-Err.is (same_members _ _ (sym (append-nil c.args.points.now.items)))
