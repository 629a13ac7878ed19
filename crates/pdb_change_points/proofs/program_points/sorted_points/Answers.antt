use Rattle.std.proofs.Common.{◌≡◌, ◌++◌, ◌∷◌, [], ap, ◌∙◌}
use Rattle.std.specs.Prelude.{ℕ, List, map}
use Rattle.std.specs.List.{flat_map}
use Rattle.pdb_functions.specs.GlobalFunctions.{global_function}
use Rattle.pdb_change_points.specs.ModulePoints.{answer_points}
use Rattle.pdb_change_points.specs.Points.{map_points, contribution_points, global_points}
use Rattle.pdb_change_points.proofs.MemberLemmas.{members_then, same_members}
use Rattle.pdb_change_points.proofs.PieceLemmas.{first_is_0, has_first}
use Rattle.pdb_change_points.proofs.program_points.sorted_points.Goals as goal

pub returns-clause-members : goal.returns-clause-members
returns-clause-members c =
    let sections = c.args.address_map.now in
    let front = λ (start : List ℕ). start ++ map_points sections
    ++ contribution_points sections c.args.contributions.now
    ++ global_points sections (map global_function c.args.functions.now) in
    let rest = flat_map (answer_points sections) c.args.answers.now in
    let made : c.add_front_points.new.points.items ≡ front (0 ∷ []) =
    c.in_ok-add_front_points.ensures
    ∙ ap front (c.in_ok-push.ensures.items ∙ ap (λ points. points ++ 0 ∷ []) c.new-points.ensures.items) in
    members_then c.sort_unique.new.numbers.items c.add_modules_points.new.points.items (front (0 ∷ []) ++ rest)
    c.sort_unique.ensures.members
    (members_then c.add_modules_points.new.points.items (c.add_front_points.new.points.items ++ rest)
    (front (0 ∷ []) ++ rest) c.in_ok-add_modules_points.ensures
    (same_members (c.add_front_points.new.points.items ++ rest) (front (0 ∷ []) ++ rest)
    (ap (λ points. points ++ rest) made)))

pub returns-clause-order : goal.returns-clause-order
returns-clause-order c =
    let points = c.sort_unique.new.numbers.items in (
      c.sort_unique.ensures.ascend,
      first_is_0 points c.sort_unique.ensures.ascend (has_first points 0 _ (returns-clause-members c)),
    )
