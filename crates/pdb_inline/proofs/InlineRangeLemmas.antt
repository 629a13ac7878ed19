-- The list of inline ranges.
use Rattle.std.proofs.Common.{◌≡◌, List, [], map, Ok, refl, arith}
use Rattle.std.proofs.lemmas.List.Folds.{flat_map-map}
use Rattle.pdb_records.specs.declared.ids.IdIndex.{IdIndex}
use Rattle.pdb_inline.specs.Sites.{Site, SiteAtDepth, Walk, at_depth, unless_met}
use Rattle.pdb_inline.specs.declared.inline_ranges.InlineRange.{InlineRange}
use Rattle.pdb_inline.specs.InlineRanges.{own_ranges, inline_ranges}
use Rattle.pdb_inline.specs.CoveredRuns.{ranges_by_depth}
use Rattle.pdb_inline.proofs.NestingLemmas.{AreNested}
use Rattle.pdb_inline.proofs.InsideLemmas.{added_in_all}

-- the ranges of nested sites are those by depth
pub ranges_by_depth_are : (inlinees : List IdIndex) (sites : List Site) → AreNested 0 [] sites
    → ranges_by_depth inlinees (map at_depth sites) ≡ inline_ranges inlinees sites
ranges_by_depth_are inlinees sites nested =
    rw (
      flat_map-map (λ (site : SiteAtDepth). own_ranges inlinees site.depth site.symbol) at_depth sites,
      added_in_all inlinees 0 [] sites sites (tt, tt) nested (λ q above. refl),
    ) refl

-- where the code has the sites of a walk by their depths, their ranges by depth are the walk's
pub answered_by_depth : (inlinees : List IdIndex) (w : Walk) (sites : List SiteAtDepth) (ranges : List InlineRange)
    → AreNested 0 [] w.sites → unless_met w (map at_depth w.sites) ≡ Ok sites → ranges ≡ ranges_by_depth inlinees sites
    → unless_met w (inline_ranges inlinees w.sites) ≡ Ok ranges
answered_by_depth inlinees w sites ranges nested found is =
    let same = ranges_by_depth_are inlinees w.sites nested in grind arith
