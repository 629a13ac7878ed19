use Rattle.std.proofs.Common.{◌≡◌, ◌++◌, drop}
use Rattle.pdb_change_points.specs.Points.{contribution_points}
use Rattle.pdb_change_points.proofs.points.add_contribution_points.Given as goal

-- the points so far, with those of what is left, are all points
abbrev pub invariant-loop-contribution : goal.invariant-loop-contribution
invariant-loop-contribution l =
    l.points.items ++ contribution_points l.address_map (drop l.contribution-index l.contributions)
    ≡ l.initial.points.items ++ contribution_points l.address_map l.contributions
