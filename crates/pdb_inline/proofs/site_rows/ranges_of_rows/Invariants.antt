use Rattle.std.proofs.Common.{◌≡◌, ◌++◌, map, drop}
use Rattle.pdb_inline.specs.SiteRows.{row_range}
use Rattle.pdb_inline.proofs.site_rows.ranges_of_rows.Given as goal

-- the ranges so far, and those of what is left, are those of all
abbrev pub invariant-loop-row : goal.invariant-loop-row
invariant-loop-row l = l.ranges.items ++ map row_range (drop l.row-index l.rows) ≡ map row_range l.rows
