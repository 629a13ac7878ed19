use Rattle.std.proofs.Common.{◌≡◌, ◌++◌, drop}
use Rattle.std.specs.Prelude.{None}
use Rattle.pdb_tables.specs.Keyed.{firsts_after}
use Rattle.pdb_tables.proofs.keyed.first_neighbours.Given as goal

-- what stayed so far, and what stays of what is left, is what stays of all
abbrev pub invariant-loop-entry : goal.invariant-loop-entry
invariant-loop-entry g l =
    let firsts = firsts_after g.T.Key.Ord.cmp g.T.Keyed.key_of in
    l.firsts.items ++ firsts l.before (drop l.entry-index l.entries) ≡ firsts None l.entries
