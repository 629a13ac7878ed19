use Rattle.std.proofs.Common.{◌≡◌, ◌<◌, ◌≤◌, ℕ, false, ◌||◌, drop}
use Rattle.pdb_tables.specs.RangeSet.{has}
use Rattle.pdb_inline.specs.CoveredRuns.{is_on_stack}
use Rattle.pdb_inline.proofs.missing_rows.push_runs.Given as goal

-- what is there and the runs that are left are what was there and all runs; nothing is deeper than these runs but
-- what was
abbrev pub invariant-loop-start : goal.invariant-loop-start
invariant-loop-start l = record {
  below : (d x : ℕ) → d < l.depth
      → (has (drop l.start-index l.runs) x || is_on_stack d l.stack.items x) ≡
      (has l.runs x || is_on_stack d l.initial.stack.items x);
  at_depth : (d x : ℕ) → l.depth ≤ d → is_on_stack d l.initial.stack.items x ≡ false
      → is_on_stack d l.stack.items x ≡ false;
}
