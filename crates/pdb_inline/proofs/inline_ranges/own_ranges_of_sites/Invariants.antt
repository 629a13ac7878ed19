use Rattle.std.proofs.Common.{◌≡◌, ◌++◌, map, drop}
use Rattle.std.specs.List.{flat_map}
use Rattle.pdb_inline.specs.InlineRanges.{own_ranges}
use Rattle.pdb_inline.specs.Sites.{site_view}
use Rattle.pdb_inline.proofs.inline_ranges.own_ranges_of_sites.Given as goal

-- the ranges so far, and those of what is left, are those of all sites
abbrev pub invariant-loop-site : goal.invariant-loop-site
invariant-loop-site l =
    l.ranges.items ++ flat_map (λ site. own_ranges l.inlinees.keys site.depth site.symbol)
    (map site_view (drop l.site-index l.sites))
    ≡ flat_map (λ site. own_ranges l.inlinees.keys site.depth site.symbol) (map site_view l.sites)
