use Rattle.std.proofs.Common.{◌≡◌, ℕ, ◌||◌, drop}
use Rattle.pdb_tables.specs.RangeSet.{has, IsRunsFrom}
use Rattle.pdb_tables.proofs.runs.add_ranges.Given as goal

-- the runs so far and the ranges from here on hold what the first runs and all ranges hold
abbrev pub invariant-loop-lo : goal.invariant-loop-lo
invariant-loop-lo l = IsRunsFrom 0 l.runs.items
    × ((x : ℕ) → (has l.runs.items x || has (drop l.lo-index l.ranges) x) ≡
    (has l.initial.runs.items x || has l.ranges x))
