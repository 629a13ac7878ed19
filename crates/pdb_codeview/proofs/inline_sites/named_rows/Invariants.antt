-- The rows are those that were named and those that are left.
use Rattle.std.proofs.Common.{◌≡◌, ◌++◌, drop, map}
use Rattle.pdb_codeview.specs.InlineSites.{named_row}
use Rattle.pdb_codeview.proofs.inline_sites.named_rows.Given as goal

abbrev pub invariant-loop-row : goal.invariant-loop-row
invariant-loop-row l = map (named_row l.files.entries.items) l.rows
    ≡ l.named.items ++ map (named_row l.files.entries.items) (drop l.row-index l.rows)
