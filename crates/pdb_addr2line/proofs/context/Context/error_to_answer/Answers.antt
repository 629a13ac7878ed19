use Rattle.std.proofs.Common.{◌≡◌, ◌∙◌, refl, rules}
use Rattle.pdb_errors.specs.PartSet.{add_part, error_of_part}
use Rattle.pdb_errors.specs.declared.error.Error.{Error}
use Rattle.pdb_frames.specs.CodeParts.{CodeParts, unsuccessful_code, with_code_part, code_part_error}
use Rattle.pdb_frames.specs.contracts.code_parts.CodePartOrd.TheImpl as order
use Rattle.pdb_frames.specs.declared.code_parts.CodePart.{CodePart}
use Rattle.pdb_addr2line.proofs.context.Context.error_to_answer.Goals as goal

-- what a part answers, by the order that is derived
error_in_order : (failed : CodeParts) (part : CodePart) (e : Error)
    → error_of_part (order.ghosts).cmp unsuccessful_code failed part e ≡ code_part_error failed part e
error_in_order failed part e = search rules

-- one more part, by the order that is derived
parts_in_order : (failed : CodeParts) (part : CodePart)
    → add_part (order.ghosts).cmp failed part ≡ with_code_part failed part
parts_in_order failed part = search rules

pub returns-in_ok-fail-in-Some-clause-answer : goal.returns-in_ok-fail-in-Some-clause-answer
returns-in_ok-fail-in-Some-clause-answer g c =
    let asked = c.in_ok-fail-in-Some.ensures.answer
    ∙ error_in_order c.self.inside.code_failed c.in-Some.part c.in_ok-error.error in
    rw (← c.self.view_is, c.in-Some.is, ← c.in_ok-error.ensures.0) asked

pub returns-in_ok-fail-in-Some-clause-state : goal.returns-in_ok-fail-in-Some-clause-state
returns-in_ok-fail-in-Some-clause-state g c =
    let added = c.in_ok-fail-in-Some.ensures.state
    ∙ parts_in_order c.self.inside.code_failed c.in-Some.part in
    rw (← c.self.view_is, c.in-Some.is, added) refl
