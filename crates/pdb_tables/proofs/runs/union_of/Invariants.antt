use Rattle.std.proofs.Common.{◌≡◌, ℕ, ◌||◌, drop}
use Rattle.pdb_tables.specs.RangeSet.{has, IsRunsFrom}
use Rattle.pdb_tables.proofs.runs.union_of.Given as goal

-- the union so far, and what is left of both lists, hold what the lists hold
abbrev pub invariant-loop-lo : goal.invariant-loop-lo
invariant-loop-lo l = IsRunsFrom 0 l.all.items
    × ((x : ℕ) → ((has l.all.items x || has l.rest x) || has (drop l.lo-index l.others) x) ≡
    (has l.runs x || has l.others x))
