use Rattle.pdb_inline.proofs.ProcedureStackLemmas.{positions_next}
use Rattle.pdb_inline.proofs.procedure_stacks.are_stacks_small.Goals as goal

pub loop-range-preserved : goal.loop-range-preserved
loop-range-preserved c =
    rw (c.saturating_add-count.ensures, c.saturating_sub.ensures)
    (positions_next c.args.ranges.now c.in_ok-bounds.bounds.items c.loop-range.range-index _ c.loop-range.count
    c.bounds_below-start.result c.bounds_below-end.result c.in_ok-bounds.ensures.all c.loop-range-test.true
    (rw c.deref.ensures.value at c.bounds_below-start.ensures)
    (rw c.deref-in-loop-range.ensures.value at c.bounds_below-end.ensures) c.loop-range.invariant)
