use Rattle.std.proofs.Common.{◌≡◌, ◌≤◌, ℕ, ◌||◌, vec_len}
use Rattle.pdb_tables.specs.RangeSet.{has}
use Rattle.pdb_inline.specs.CoveredRuns.{is_on_stack}
use Rattle.pdb_inline.proofs.missing_rows.take_deeper.Given as goal

-- what is taken so far and what is left are what there was
abbrev pub invariant-loop-run : goal.invariant-loop-run
invariant-loop-run l = (d x : ℕ) → d ≤ l.depth
    → is_on_stack d l.initial.stack.items x ≡ (has l.taken.items x || is_on_stack d l.stack.items x)

abbrev pub decreases-loop-run : goal.decreases-loop-run
decreases-loop-run l = vec_len l.stack
