use Rattle.std.proofs.Common.{◌≡◌, ◌≤◌, ◌++◌, length, map, drop, reverse}
use Rattle.pdb_inline.specs.InlineRanges.{added_range}
use Rattle.pdb_inline.proofs.missing_rows.push_added.Given as goal

-- from the last on, the ranges are those of the runs from `left` on, and those that were there
abbrev pub invariant-loop-left : goal.invariant-loop-left
invariant-loop-left l = record {
  within : l.left ≤ length l.runs;
  added : reverse l.added.items
      ≡ map (added_range l.site.depth l.site.symbol.now l.file_index) (drop l.left l.runs)
      ++ reverse l.initial.added.items;
}

abbrev pub decreases-loop-left : goal.decreases-loop-left
decreases-loop-left l = l.left
