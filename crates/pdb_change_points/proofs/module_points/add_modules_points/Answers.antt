use Rattle.std.proofs.Common.{◌≡◌, [], ◌∷◌, ◌+◌, drop, refl, ap, ◌∙◌, sym, arith}
use Rattle.std.specs.List.{flat_map}
use Rattle.std.proofs.lemmas.List.{drop_more, drop_all, append-nil}
use Rattle.pdb_change_points.specs.ModulePoints.{answer_points}
use Rattle.pdb_change_points.proofs.MemberLemmas.{same_members, step_members}
use Rattle.pdb_change_points.proofs.module_points.add_modules_points.Goals as goal

pub loop-answer-init : goal.loop-answer-init
loop-answer-init c = same_members _ _ refl

pub loop-answer-preserved : goal.loop-answer-preserved
loop-answer-preserved c =
    let at = c.loop-answer.answer-index in
    let answers = c.args.answers.now in
    let points = answer_points c.args.address_map.now in
    let item = c.answer-item.result in
    let cut : drop at answers ≡ item ∷ drop (at + 1) answers =
    drop_more answers at item (omega arith) ∙ ap (λ x. x ∷ drop (at + 1) answers) (sym c.answer-item.is) in
    step_members c.args.points.now.items c.loop-answer.points.items c.add_answer_points.new.points.items
    (points item) (flat_map points (drop (at + 1) answers)) (flat_map points answers)
    (rw cut at c.loop-answer.invariant) c.in_ok-add_answer_points.ensures

pub returns : goal.returns
returns c =
    let at = c.loop-answer.answer-index in
    let rest : drop at c.args.answers.now ≡ [] = drop_all at c.args.answers.now (omega arith) in
    rw append-nil at (rw rest at c.loop-answer.invariant)
