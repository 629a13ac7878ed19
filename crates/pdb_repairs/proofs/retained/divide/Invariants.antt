use Rattle.std.proofs.Common.{◌≡◌, ◌++◌, drop, List, map}
use Rattle.std.specs.List.{filter}
use Rattle.pdb_repairs.specs.Claims.{is_retained, modules_of_left_out}
use Rattle.pdb_repairs.specs.Intervals.{AreOwners}
use Rattle.pdb_repairs.specs.declared.claims.Claim.{Claim}
use Rattle.pdb_repairs.proofs.retained.divide.Given as goal

-- what is kept so far, and of what is left, is all that is kept; and so with the modules of the others
abbrev pub invariant-loop-contribution : goal.invariant-loop-contribution
invariant-loop-contribution l =
    (claims : List Claim) → AreOwners claims l.intervals
    → (l.retained.items ++ filter (is_retained l.sections claims) (drop l.contribution-index l.contributions)
    ≡ filter (is_retained l.sections claims) l.contributions)
    × (map (λ one. one.module_index) l.left_out.items
    ++ modules_of_left_out l.sections claims (drop l.contribution-index l.contributions)
    ≡ modules_of_left_out l.sections claims l.contributions)
