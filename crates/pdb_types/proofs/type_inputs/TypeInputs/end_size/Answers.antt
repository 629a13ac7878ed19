use Rattle.std.proofs.Common.{◌≡◌, ◌∙◌, sym, ap}
use Rattle.std.specs.Prelude.{Some}
use Rattle.std.specs.Option.{unwrap_or}
use Rattle.pdb_types.specs.ForwardReferences.{aggregate, aggregate_view}
use Rattle.pdb_types.specs.Sizes.{own_size}
use Rattle.pdb_types.proofs.ForwardLemmas.{forward_size-read, size_elsewhere-forward}
use Rattle.pdb_types.proofs.type_inputs.TypeInputs.end_size.Goals as goal

pub returns-in_ok-elsewhere-in-Some-clause-answer : goal.returns-in_ok-elsewhere-in-Some-clause-answer
returns-in_ok-elsewhere-in-Some-clause-answer g c =
    let inputs = c.args.self.now in
    let is_aggregate : aggregate c.args.type_data.now ≡ Some (aggregate_view c.in-Some.aggregate) =
    sym c.in-Some.ensures in
    let behind = forward_size-read inputs.types c.args.resolved.0 c.args.type_data.now
    (aggregate_view c.in-Some.aggregate) c.requires.read is_aggregate c.if-aggregate.true in
    let own = c.own_size-own.ensures ∙ ap (λ b. own_size b.pointer_size c.args.type_data.now) c.self.view_is in
    c.unwrap_or.ensures ∙ (ap (λ n. unwrap_or c.in_ok-elsewhere-in-Some.elsewhere n) own
    ∙ size_elsewhere-forward c.args.resolved.0 (own_size inputs.pointer_size c.args.type_data.now) inputs.types.items _
    (aggregate_view c.in-Some.aggregate) c.in_ok-elsewhere-in-Some.elsewhere is_aggregate c.if-aggregate.true
    (c.in_ok-elsewhere-in-Some.ensures.answer ∙ behind))
