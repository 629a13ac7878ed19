use Rattle.std.proofs.Common.{◌≡◌, ℕ, ◌||◌, drop}
use Rattle.pdb_tables.specs.RangeSet.{has, IsRunsFrom}
use Rattle.pdb_tables.proofs.runs.add_beginning_by.Given as goal

-- the list so far and the runs from here on hold what the first list and all runs hold
abbrev pub invariant-loop-at : goal.invariant-loop-at
invariant-loop-at l = IsRunsFrom 0 l.all.items
    × ((x : ℕ) → (has l.all.items x || has (drop l.at l.runs) x) ≡ (has l.initial.all.items x || has l.runs x))
