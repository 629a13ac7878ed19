use Rattle.std.proofs.Common.{◌≡◌, ◌≤◌, ℕ, length, map, drop, reverse}
use Rattle.pdb_tables.specs.RangeSet.{has}
use Rattle.pdb_inline.specs.CoveredRuns.{is_on_stack, deeper_ranges, added_by_depth}
use Rattle.pdb_inline.specs.Sites.{site_view}
use Rattle.pdb_inline.proofs.missing_rows.ranges_added_to_sites.Given as goal

-- from the last on, the ranges are those added to the sites from `left` on; the stack holds what those sites cover
abbrev pub invariant-loop-left : goal.invariant-loop-left
invariant-loop-left l = record {
  within : l.left ≤ length l.sites;
  added : reverse l.added.items ≡ added_by_depth l.inlinees.keys (map site_view (drop l.left l.sites));
  covered : (d x : ℕ) → is_on_stack d l.stack.items x ≡ has
      (deeper_ranges l.inlinees.keys d (map site_view (drop l.left l.sites))) x;
}

abbrev pub decreases-loop-left : goal.decreases-loop-left
decreases-loop-left l = l.left
