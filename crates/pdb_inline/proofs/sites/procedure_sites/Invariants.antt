use Rattle.std.proofs.Common.{◌≡◌, ◌++◌, ◌-◌, ◌<◌, length, map, drop, reverse}
use Rattle.pdb_inline.specs.Sites.{walk, walk_from, at_depth, site_view, open_site}
use Rattle.pdb_inline.proofs.sites.procedure_sites.Given as goal

-- the sites so far, and those of what is left, are the sites of the walk; what is left meets the fault where the walk
-- does
abbrev pub invariant-loop-at : goal.invariant-loop-at
invariant-loop-at l =
    let rest = walk_from l.fault l.end (drop l.at l.symbols) l.at 0 (reverse (map open_site l.outer.items)) in
    record {
      begun : 0 < l.at;
      sites : map site_view l.sites.items ++ map at_depth rest.sites ≡ map at_depth
          (walk l.symbols l.fault l.position l.end).sites;
      fault : rest.fault ≡ (walk l.symbols l.fault l.position l.end).fault;
    }

-- what is left of the symbols
abbrev pub decreases-loop-at : goal.decreases-loop-at
decreases-loop-at l = length l.symbols - l.at
