use Rattle.std.proofs.Common.{◌∙◌, refl, ap}
use Rattle.pdb_types.proofs.ForwardLemmas.{forward_size-tabulated}
use Rattle.pdb_types.proofs.type_inputs.TypeInputs.forward_size.Goals as goal

pub returns-in-Some-clause-answer : goal.returns-in-Some-clause-answer
returns-in-Some-clause-answer g c = c.size_at.ensures ∙ forward_size-tabulated _ _ _ _ _ refl refl
    (rw c.in-Some.is at c.requires.is_cache.forward)

pub returns-clause-answer : goal.returns-clause-answer
returns-clause-answer g c =
    c.size_at-size.ensures ∙ forward_size-tabulated _ _ _ _ _
    (c.deref.ensures.value ∙ (ap (λ list. list.items) c.list.view_is ∙ ap (λ s. s.types.items) c.self.view_is)) refl
    c.in_ok-sizes.ensures
