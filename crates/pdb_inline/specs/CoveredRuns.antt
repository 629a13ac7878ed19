-- Ranges that inline sites cover together with the sites inside them, found from the last site to the first. These are
-- steps of the code: its private functions cite them, and no public contract or law does.
use Rattle.std.specs.Prelude.{ℕ, Bool, false, ◌||◌, ◌&&◌, List, [], ◌∷◌, ◌++◌, nat_lt, reverse, if◌then◌else◌}
use Rattle.std.specs.List.{flat_map}
use Rattle.pdb_records.specs.declared.ids.IdIndex.{IdIndex}
use Rattle.pdb_tables.specs.RangeSet.{is_within}
use Rattle.pdb_inline.specs.declared.missing_rows.CoveredRun.{CoveredRun}
use Rattle.pdb_inline.specs.declared.inline_ranges.InlineRange.{InlineRange}
use Rattle.pdb_inline.specs.SiteRows.{row_ranges}
use Rattle.pdb_tables.specs.InOrder.{in_order}
use Rattle.pdb_inline.specs.InlineRanges.{own_ranges, added_ranges, range_before}
use Rattle.pdb_tables.specs.Runs.{missing_runs}
use Rattle.pdb_inline.specs.Sites.{SiteAtDepth}

-- the ranges of the rows of the next sites, as long as these are deeper
abbrev pub deeper_ranges : List IdIndex → ℕ → List SiteAtDepth → List (ℕ × ℕ)
deeper_ranges inlinees depth [] = []
deeper_ranges inlinees depth (site ∷ sites) =
    if nat_lt depth site.depth then row_ranges inlinees site.symbol ++ deeper_ranges inlinees depth sites else []

-- the added ranges of sites; the sites inside a site are the deeper ones right after it
abbrev pub added_by_depth : List IdIndex → List SiteAtDepth → List InlineRange
added_by_depth inlinees [] = []
added_by_depth inlinees (site ∷ sites) =
    added_ranges inlinees site.depth site.symbol
    (missing_runs (deeper_ranges inlinees site.depth sites) (row_ranges inlinees site.symbol))
    ++ added_by_depth inlinees sites

-- the ranges of sites in reading order; the sites inside a site are the deeper ones right after it
abbrev pub read_by_depth : List IdIndex → List SiteAtDepth → List InlineRange
read_by_depth inlinees sites =
    flat_map (λ site. own_ranges inlinees site.depth site.symbol) sites ++ added_by_depth inlinees sites

-- the ranges of sites, sorted by depth and start
abbrev pub ranges_by_depth : List IdIndex → List SiteAtDepth → List InlineRange
ranges_by_depth inlinees sites = in_order range_before (read_by_depth inlinees sites)

-- whether `x` is in one of the first runs of a list, as long as these are deeper than `depth`
abbrev pub is_in_top : ℕ → List CoveredRun → ℕ → Bool
is_in_top depth [] x = false
is_in_top depth (run ∷ runs) x = nat_lt depth run.depth && (is_within run.start run.end x || is_in_top depth runs x)

-- whether `x` is in one of the last runs of a list, as long as these are deeper than `depth`
abbrev pub is_on_stack : ℕ → List CoveredRun → ℕ → Bool
is_on_stack depth runs x = is_in_top depth (reverse runs) x
