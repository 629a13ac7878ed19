use Rattle.std.proofs.Common.{sym}
use Rattle.std.proofs.lemmas.List.{append-nil}
use Rattle.pdb_change_points.proofs.MemberLemmas.{same_members}
use Rattle.pdb_change_points.proofs.module_points.add_listed_points.Goals as goal

pub returns-in-None : goal.returns-in-None
returns-in-None c = rw c.in-None.is (same_members _ _ (sym (append-nil c.args.points.now.items)))
