use Rattle.std.proofs.Common.{◌≡◌, ◌++◌, drop}
use Rattle.pdb_inline.specs.SiteRows.{rows_with_code}
use Rattle.pdb_inline.proofs.site_rows.rows_with_code.Given as goal

-- the rows so far, and those of what is left, are those of all
abbrev pub invariant-loop-row : goal.invariant-loop-row
invariant-loop-row l = l.counted.items ++ rows_with_code (drop l.row-index l.rows) ≡ rows_with_code l.rows
