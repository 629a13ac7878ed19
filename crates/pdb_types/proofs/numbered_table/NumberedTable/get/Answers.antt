use Rattle.std.proofs.Common.{◌∙◌, sym}
use Rattle.pdb_types.proofs.AscendingLemmas.{first_take}
use Rattle.pdb_types.proofs.CachedLemmas.{knows_behind}
use Rattle.pdb_types.proofs.numbered_table.NumberedTable.get.Goals as goal

pub returns-in-Some : goal.returns-in-Some
returns-in-Some g c =
    let found = rw c.split_at.ensures.front at c.in-Some.ensures in
    rw (← c.self.view_is) (sym (first_take g.T.Numbered.number_of _ _ _ _ (sym found)))

pub returns : goal.returns
returns g c =
    let absent = rw c.split_at.ensures.front at c.in_default.ensures in
    rw (← c.self.view_is)
    (c.look_up.ensures ∙ knows_behind g.T.Numbered.number_of _ _ _ _ absent c.self.invariant.2)
