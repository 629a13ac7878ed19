use Rattle.std.proofs.Common.{◌≡◌, ◌++◌, drop}
use Rattle.pdb_tables.specs.Runs.{range_without}
use Rattle.pdb_tables.proofs.runs.push_range_without.Given as goal

-- what was appended so far, and what the others from here on leave from `from` on, is what all others leave
abbrev pub invariant-loop-start : goal.invariant-loop-start
invariant-loop-start l =
    l.left.items ++ range_without l.from l.hi (drop l.start-index l.others) ≡ l.initial.left.items ++ range_without l.lo l.hi l.others
