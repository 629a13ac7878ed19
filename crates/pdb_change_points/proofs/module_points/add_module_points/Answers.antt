use Rattle.std.proofs.Common.{◌≡◌, ◌++◌, ap, ◌∙◌}
use Rattle.pdb_change_points.specs.ModulePoints.{module_points}
use Rattle.pdb_change_points.proofs.MemberLemmas.{added_members, members_then, same_members}
use Rattle.pdb_change_points.proofs.module_points.add_module_points.Goals as goal

pub returns : goal.returns
returns c =
    let own = module_points c.args.address_map.now c.args.module_info.now in
    let made : c.add_own_points.new.points.items ≡ own =
    c.in_ok-add_own_points.ensures ∙ ap (λ points. points ++ own) c.new-own.ensures.items in
    added_members c.extend_from_slice.result c.args.points.now.items c.extend_from_slice.new.self.items
    c.sort_unique.new.numbers.items own
    (cc (c.extend_from_slice.ensures.items, c.deref.ensures.value))
    (members_then c.sort_unique.new.numbers.items c.add_own_points.new.points.items own c.sort_unique.ensures.members
    (same_members c.add_own_points.new.points.items own made))
