use Rattle.std.proofs.Common.{◌≡◌, ◌∙◌, refl, rules, Bool, true, false}
use Rattle.std.specs.Prelude.{cond}
use Rattle.std.proofs.lemmas.Result.{IfOk-weaker}
use Rattle.pdb_errors.specs.Errors.{ErrorView, error_view}
use Rattle.pdb_types.specs.FailedParts.{Parts, unsuccessful_part, unsuccessful, part_error}
use Rattle.pdb_errors.specs.PartSet.{has_part, error_of_part}
use Rattle.pdb_types.specs.contracts.read_error.PartOrd.TheImpl as order
use Rattle.pdb_errors.specs.declared.error.Error.{Error}
use Rattle.pdb_types.specs.declared.read_error.Part.{Part}
use Rattle.pdb_types.specs.declared.read_error.Part.TheVariants.{Imports, Exports}
use Rattle.pdb_types.proofs.type_inputs.TypeInputs.fail.Goals as goal

-- what is seen of the error that a part answers, by whether the part failed before
view_by_test : (t : Bool) (part : Part) (error : Error) → error_view (cond t (unsuccessful_part part) error)
    ≡ cond t (unsuccessful part) (error_view error)
view_by_test true (Imports module_index) error = refl
view_by_test true (Exports module_index) error = refl
view_by_test false part error = refl

-- parts are in the order that is derived
in_order : (failed : Parts) (part : Part) (e : ErrorView)
    → error_of_part (order.ghosts).cmp unsuccessful failed part e ≡ part_error failed part e
in_order failed part e = search rules

pub returns-clause-answer : goal.returns-clause-answer
returns-clause-answer g c =
    let failed = c.args.cache.now.failed in
    let part = c.args.part in
    IfOk-weaker c.fail.result _ _ (λ e is. rw is
    (view_by_test (has_part (order.ghosts).cmp failed part) part c.args.error
    ∙ in_order failed part (error_view c.args.error))) c.fail.ensures.answer
