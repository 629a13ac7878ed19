use Rattle.std.proofs.Common.{◌≡◌, ◌++◌, drop}
use Rattle.pdb_tables.specs.Runs.{with_range}
use Rattle.pdb_tables.proofs.runs.with_range.Given as goal

-- the runs so far, and the runs from here on with the grown range put in, are the answer
abbrev pub invariant-loop-at : goal.invariant-loop-at
invariant-loop-at l = l.all.items ++ with_range l.start l.end (drop l.at l.runs) ≡ with_range l.lo l.hi l.runs
