use Rattle.std.proofs.Common.{◌≡◌, drop}
use Rattle.pdb_tables.specs.Runs.{ending_after}
use Rattle.pdb_tables.proofs.runs.ending_after.Given as goal

-- what the runs from here on leave is what all runs leave
abbrev pub invariant-loop-at : goal.invariant-loop-at
invariant-loop-at l = ending_after l.bound (drop l.at l.runs) ≡ ending_after l.bound l.runs
