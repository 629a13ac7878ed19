use Rattle.std.proofs.Common.{◌≡◌, ◌++◌, drop}
use Rattle.pdb_inline.specs.ListedRanges.{listed}
use Rattle.pdb_inline.proofs.listed_ranges.listed.Given as goal

-- the ranges so far, and those of what is left, are those of all
abbrev pub invariant-loop-position : goal.invariant-loop-position
invariant-loop-position l = l.all.items ++ listed l.position (drop l.position l.ranges) ≡ listed 0 l.ranges
