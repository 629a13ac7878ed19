-- The rows of a site that count.
use Rattle.std.specs.Prelude.{ℕ, ◌+◌, ◌==◌, Bool, List, [], unwrap_or, nat_lt, map, filter, if◌then◌else◌}
use Rattle.std.specs.List.{list_any}
use Rattle.pdb_records.specs.declared.ids.IdIndex.{IdIndex}
use Rattle.pdb_records.specs.declared.symbols.InlineRow.{InlineRow}
use Rattle.pdb_records.specs.declared.symbols.InlineSiteSymbol.{InlineSiteSymbol}

-- whether an id is one of these
abbrev pub has_id : List IdIndex → IdIndex → Bool
has_id ids id = list_any (λ other. other.0 == id.0) ids

-- the size of a row's code, 0 if it isn't known
abbrev pub row_length : InlineRow → ℕ
row_length row = unwrap_or row.length 0

-- the end of a row's code
abbrev pub row_end : InlineRow → ℕ
row_end row = row.offset + row_length row

-- the rows that have code
abbrev pub rows_with_code : List InlineRow → List InlineRow
rows_with_code rows = filter (λ row. nat_lt 0 (row_length row)) rows

-- the rows of a site that count: those with code before the fault of its rows; none if the site's id isn't among the
-- inlinees
abbrev pub counted_rows : List IdIndex → InlineSiteSymbol → List InlineRow
counted_rows inlinees symbol = if has_id inlinees symbol.inlinee then rows_with_code symbol.rows.items else []

-- the range of a row's code, with an exclusive end
abbrev pub row_range : InlineRow → ℕ × ℕ
row_range row = (row.offset, row_end row)

-- the code ranges of the rows of a site that count
abbrev pub row_ranges : List IdIndex → InlineSiteSymbol → List (ℕ × ℕ)
row_ranges inlinees symbol = map row_range (counted_rows inlinees symbol)
