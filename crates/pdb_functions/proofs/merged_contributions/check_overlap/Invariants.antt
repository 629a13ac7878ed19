use Rattle.std.proofs.Common.{◌≡◌, drop}
use Rattle.std.specs.Prelude.{None}
use Rattle.pdb_functions.specs.MergedContributions.{overlap_after}
use Rattle.pdb_functions.proofs.merged_contributions.check_overlap.Given as goal

-- what overlaps in what is left is what overlaps in all
abbrev pub invariant-loop-interval : goal.invariant-loop-interval
invariant-loop-interval l = overlap_after l.before (drop l.interval-index l.intervals) ≡ overlap_after None l.intervals
