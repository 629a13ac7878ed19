use Rattle.std.proofs.Common.{◌≡◌, ◌++◌, drop}
use Rattle.pdb_tables.specs.Runs.{difference}
use Rattle.pdb_tables.proofs.runs.difference_of.Given as goal

-- what stays so far, and what the others leave of the runs from here on, are the answer
abbrev pub invariant-loop-lo : goal.invariant-loop-lo
invariant-loop-lo l = l.left.items ++ difference (drop l.lo-index l.runs) l.rest ≡ difference l.runs l.others
