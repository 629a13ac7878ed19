use Rattle.std.proofs.Common.{◌≡◌, ◌++◌, drop}
use Rattle.std.specs.Prelude.{option_to_list}
use Rattle.pdb_functions.specs.MergedContributions.{intervals_of}
use Rattle.pdb_functions.proofs.merged_contributions.intervals.Given as goal

-- the intervals so far, and those of the open one and what is left, are the intervals of all
abbrev pub invariant-loop-claim : goal.invariant-loop-claim
invariant-loop-claim l =
    l.intervals.items ++ intervals_of (option_to_list l.open ++ drop l.claim-index l.claims) ≡ intervals_of l.claims
