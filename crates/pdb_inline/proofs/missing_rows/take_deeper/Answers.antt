use Rattle.std.proofs.Common.{◌≡◌, ◌++◌, ◌∷◌, [], vec_len, sym}
use Rattle.pdb_inline.proofs.CoveredLemmas.{ends_with, take_top}
use Rattle.pdb_inline.proofs.missing_rows.take_deeper.Goals as goal

pub loop-run-preserved : goal.loop-run-preserved
loop-run-preserved c = λ d x below.
    let run = c.in-Some.field-0.now in
    let last = rw (c.deref.ensures.value, ← c.loop-run.stack.ok.0) at (sym c.in-Some.ensures.value) in
    let all : c.loop-run.stack.items ≡ c.pop.new.self.items ++ run ∷ [] =
    rw c.pop.ensures.rest (ends_with c.loop-run.stack.items (vec_len c.loop-run.stack) run c.loop-run.stack.ok.0 last)
    in
    rw c.in_ok-push.ensures.items
    (take_top c.args.depth d x _ c.loop-run.taken.items c.loop-run.stack.items c.pop.new.self.items run
    (c.loop-run.invariant d x below) all below c.if-run-depth.false)
