use Rattle.std.proofs.Common.{◌≡◌, ◌++◌, map, drop}
use Rattle.pdb_inline.specs.InlineRanges.{own_range}
use Rattle.pdb_inline.proofs.inline_ranges.push_own.Given as goal

-- what is there, and the ranges of what is left, is what was there and the ranges of all rows
abbrev pub invariant-loop-row : goal.invariant-loop-row
invariant-loop-row l =
    l.ranges.items ++ map (own_range l.site.depth l.site.symbol.now) (drop l.row-index l.rows)
    ≡ l.initial.ranges.items ++ map (own_range l.site.depth l.site.symbol.now) l.rows
