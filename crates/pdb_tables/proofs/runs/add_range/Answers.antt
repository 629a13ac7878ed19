use Rattle.std.proofs.Common.{sym, arith}
use Rattle.pdb_tables.proofs.RunLemmas.{length_from_last, runs_push, runs_grow, has_grow}
use Rattle.pdb_tables.proofs.WithRangeLemmas.{IsRunsFrom-with_range, has-with_range}
use Rattle.pdb_tables.proofs.runs.add_range.Goals as goal

pub returns-in_ok-push-2-clause-ordered : goal.returns-in_ok-push-2-clause-ordered
returns-in_ok-push-2-clause-ordered c =
    let last = rw c.deref.ensures.value at (sym c.in-Some.ensures.value) in
    rw c.in_ok-push-2.ensures.items
    (runs_push 0 _ _ _ _ _ last (length_from_last _ _ last) c.if-end-lo.true c.if-hi-lo.false c.requires)

pub returns-then-start-lo-clause-ordered : goal.returns-then-start-lo-clause-ordered
returns-then-start-lo-clause-ordered c =
    let last = rw c.deref.ensures.value at (sym c.in-Some.ensures.value) in
    rw (c.len-last.ensures, ← c.deref.ensures.len, c.deref.ensures.value, c.max.ensures)
    (runs_grow 0 _ _ _ _ last (length_from_last _ _ last) c.requires)

pub returns-then-start-lo-clause-state : goal.returns-then-start-lo-clause-state
returns-then-start-lo-clause-state c =
    let last = rw c.deref.ensures.value at (sym c.in-Some.ensures.value) in
    rw (c.len-last.ensures, ← c.deref.ensures.len, c.deref.ensures.value, c.max.ensures)
    (λ x. has_grow _ _ _ x _ _ last (length_from_last _ _ last) c.if-start-lo.true c.if-end-lo.false c.if-hi-lo.false)

pub returns-in_ok-runs-clause-ordered : goal.returns-in_ok-runs-clause-ordered
returns-in_ok-runs-clause-ordered c =
    rw (c.in_ok-runs.ensures, c.deref-else-start-lo.ensures.value)
    (IsRunsFrom-with_range 0 c.args.lo c.args.hi _ (omega arith) c.if-hi-lo.false c.requires)

pub returns-in_ok-runs-clause-state : goal.returns-in_ok-runs-clause-state
returns-in_ok-runs-clause-state c =
    rw (c.in_ok-runs.ensures, c.deref-else-start-lo.ensures.value)
    (λ x. has-with_range 0 c.args.lo c.args.hi x _ c.if-hi-lo.false c.requires)
