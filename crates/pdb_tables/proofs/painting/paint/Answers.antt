use Rattle.pdb_tables.proofs.SegmentLemmas.{ordered_push, value_at-push}
use Rattle.pdb_tables.proofs.OverlaidLemmas.{value_at-painted, ordered_painted}
use Rattle.pdb_tables.proofs.CutLemmas.{length-painted}
use Rattle.pdb_tables.proofs.painting.paint.Goals as goal

pub returns-in_ok-push-clause-ordered : goal.returns-in_ok-push-clause-ordered
returns-in_ok-push-clause-ordered g c =
    let end = rw (c.end_of.ensures, c.deref.ensures.value) at c.if-end_of-lo.true in
    rw c.in_ok-push.ensures.items (ordered_push 0 _ _ end c.if-hi-lo.false c.requires)

pub returns-in_ok-push-clause-state : goal.returns-in_ok-push-clause-state
returns-in_ok-push-clause-state g c =
    let end = rw (c.end_of.ensures, c.deref.ensures.value) at c.if-end_of-lo.true in
    rw c.in_ok-push.ensures.items
    (λ x. value_at-push x 0 _ (record { start = c.args.lo; end = c.args.hi; value = c.args.value }) end c.requires)

pub returns-in_ok-segments-clause-ordered : goal.returns-in_ok-segments-clause-ordered
returns-in_ok-segments-clause-ordered g c =
    rw (c.in_ok-segments.ensures, c.deref-else-end_of-lo.ensures.value)
    (ordered_painted (record { start = c.args.lo; end = c.args.hi; value = c.args.value }) _ c.if-hi-lo.false
    c.requires)

pub returns-in_ok-segments-clause-state : goal.returns-in_ok-segments-clause-state
returns-in_ok-segments-clause-state g c =
    rw (c.in_ok-segments.ensures, c.deref-else-end_of-lo.ensures.value)
    (λ x. value_at-painted x (record { start = c.args.lo; end = c.args.hi; value = c.args.value }) _ c.if-hi-lo.false)

pub returns-in_ok-segments-clause-bound : goal.returns-in_ok-segments-clause-bound
returns-in_ok-segments-clause-bound g c =
    rw (c.in_ok-segments.ensures, c.deref-else-end_of-lo.ensures.value)
    (length-painted (record { start = c.args.lo; end = c.args.hi; value = c.args.value }) _ c.if-hi-lo.false c.requires)
