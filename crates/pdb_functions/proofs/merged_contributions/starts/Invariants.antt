use Rattle.std.proofs.Common.{◌≡◌, ◌++◌, drop}
use Rattle.pdb_functions.specs.MergedContributions.{contribution_starts}
use Rattle.pdb_functions.proofs.merged_contributions.starts.Given as goal

-- the starts so far, and those of what is left, are the starts of all
abbrev pub invariant-loop-contribution : goal.invariant-loop-contribution
invariant-loop-contribution l =
    l.starts.items ++ contribution_starts l.sections (drop l.contribution-index l.contributions)
    ≡ contribution_starts l.sections l.contributions
