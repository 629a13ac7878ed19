use Rattle.std.proofs.Common.{◌≡◌, arith}
use Rattle.std.proofs.lemmas.Result.{IfOk-weaker}
use Rattle.pdb_tables.specs.Painting.{overlaid}
use Rattle.pdb_tables.proofs.OverlaidLemmas.{ordered_overlaid}
use Rattle.pdb_tables.proofs.TurnLemmas.{value_at-halves, edges_halves}
use Rattle.pdb_tables.proofs.painting.+painted_in_turn.Goals as goal

pub returns-in_ok-tops-in_default-clause-ordered :
    goal.returns-in_ok-tops-in_default-clause-ordered
returns-in_ok-tops-in_default-clause-ordered g t c =
    IfOk-weaker c.overlaid.result (λ all. all.items ≡ overlaid 0 c.deref.result.now c.deref-in_default.result.now) _
    (λ all is. rw (is, c.deref.ensures.value, c.deref-in_default.ensures.value)
    (ordered_overlaid 0 0 0 _ _ (omega arith) c.in_ok-tops-in_default.ensures.ordered
    c.in_ok-under-in_default.ensures.ordered))
    c.overlaid.ensures

pub returns-in_ok-tops-in_default-clause-answer : goal.returns-in_ok-tops-in_default-clause-answer
returns-in_ok-tops-in_default-clause-answer g t c =
    IfOk-weaker c.overlaid.result (λ all. all.items ≡ overlaid 0 c.deref.result.now c.deref-in_default.result.now) _
    (λ all is. rw (is, c.deref.ensures.value, c.deref-in_default.ensures.value)
    (λ x. value_at-halves x _ c.split_at.result.0.now c.split_at.result.1.now _ _ c.split_at.ensures.by_index.0
    c.in_ok-tops-in_default.ensures.ordered
    (c.in_ok-tops-in_default.ensures.answer x) (c.in_ok-under-in_default.ensures.answer x)))
    c.overlaid.ensures

pub returns-in_ok-tops-in_default-clause-edges : goal.returns-in_ok-tops-in_default-clause-edges
returns-in_ok-tops-in_default-clause-edges g t c =
    IfOk-weaker c.overlaid.result (λ all. all.items ≡ overlaid 0 c.deref.result.now c.deref-in_default.result.now) _
    (λ all is. rw (is, c.deref.ensures.value, c.deref-in_default.ensures.value)
    (λ p. edges_halves p _ c.split_at.result.0.now c.split_at.result.1.now _ _ c.split_at.ensures.by_index.0
    (c.in_ok-tops-in_default.ensures.edges p) (c.in_ok-under-in_default.ensures.edges p)))
    c.overlaid.ensures
