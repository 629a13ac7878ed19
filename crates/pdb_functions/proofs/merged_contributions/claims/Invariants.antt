use Rattle.std.proofs.Common.{◌≡◌, ◌++◌, drop}
use Rattle.pdb_functions.specs.MergedContributions.{claims, refused_ends}
use Rattle.pdb_functions.proofs.merged_contributions.claims.Given as goal

-- the claims so far, and those of what is left, are the claims of all; so is the refusal of what is left
abbrev pub invariant-loop-contribution : goal.invariant-loop-contribution
invariant-loop-contribution l = record {
  so_far : l.claims.items ++ claims l.sections (drop l.contribution-index l.contributions)
      ≡ claims l.sections l.contributions;
  refusal : refused_ends (claims l.sections (drop l.contribution-index l.contributions)) ≡ refused_ends
      (claims l.sections l.contributions);
}
