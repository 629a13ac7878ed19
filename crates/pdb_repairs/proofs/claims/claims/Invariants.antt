use Rattle.std.proofs.Common.{◌≡◌, ◌++◌, drop}
use Rattle.pdb_repairs.specs.Claims.{claims_of}
use Rattle.pdb_repairs.proofs.claims.claims.Given as goal

-- the claims so far, and those of what is left, are all claims
abbrev pub invariant-loop-contribution : goal.invariant-loop-contribution
invariant-loop-contribution l =
    l.claims.items ++ claims_of l.sections (drop l.contribution-index l.contributions)
    ≡ claims_of l.sections l.contributions
