-- Inline ranges: the ranges of a procedure's code that belong to inlined bodies.
use Rattle.std.specs.Prelude.{ℕ, ◌==◌, Bool, List, ◌++◌, Option, Some, None, Result, map, filter, option_map, slice_get}
use Rattle.std.specs.List.{list_any, flat_map}
use Rattle.std.specs.Ordering.{nat_cmp, ordering_then, is_lt}
use Rattle.std.specs.declared.cmp.Ordering.{Ordering}
use Rattle.pdb_records.specs.declared.ids.IdIndex.{IdIndex}
use Rattle.pdb_records.specs.declared.lines.FileIndex.{FileIndex}
use Rattle.pdb_records.specs.declared.modules.ModuleInfo.{ModuleInfo}
use Rattle.pdb_records.specs.declared.symbols.InlineRow.{InlineRow}
use Rattle.pdb_records.specs.declared.symbols.InlineSiteSymbol.{InlineSiteSymbol}
use Rattle.pdb_errors.specs.declared.error.Error.{Error}
use Rattle.pdb_inline.specs.declared.inline_ranges.InlineRange.{InlineRange}
use Rattle.pdb_tables.specs.InOrder.{in_order}
use Rattle.pdb_inline.specs.SiteRows.{counted_rows, row_end, row_ranges}
use Rattle.pdb_tables.specs.Runs.{missing_runs}
use Rattle.pdb_inline.specs.Sites.{Site, depth, walk, unless_met}

-- the range of a row, for a site at this depth
abbrev pub own_range : ℕ → InlineSiteSymbol → InlineRow → InlineRange
own_range depth symbol row = record {
  start_offset = row.offset;
  end_offset = row_end row;
  call_depth = depth;
  inlinee = symbol.inlinee;
  file_index = Some row.file_index;
  line_start = Some row.line_start;
}

-- the ranges of a site's own rows
abbrev pub own_ranges : List IdIndex → ℕ → InlineSiteSymbol → List InlineRange
own_ranges inlinees depth symbol = map (own_range depth symbol) (counted_rows inlinees symbol)

-- the file of the first row of a site that counts, if there is one
abbrev pub first_file : List IdIndex → InlineSiteSymbol → Option FileIndex
first_file inlinees symbol = option_map (λ row. row.file_index) (slice_get (counted_rows inlinees symbol) 0)

-- the range of a run of code that no row of a site covers, though it is inside the site
abbrev pub added_range : ℕ → InlineSiteSymbol → Option FileIndex → ℕ × ℕ → InlineRange
added_range depth symbol file run = record {
  start_offset = run.0;
  end_offset = run.1;
  call_depth = depth;
  inlinee = symbol.inlinee;
  file_index = file;
  line_start = None;
}

-- the ranges of runs of code that no row of a site covers
abbrev pub added_ranges : List IdIndex → ℕ → InlineSiteSymbol → List (ℕ × ℕ) → List InlineRange
added_ranges inlinees depth symbol runs = map (added_range depth symbol (first_file inlinees symbol)) runs

-- whether one site is inside another
abbrev pub is_inside : Site → Site → Bool
is_inside outer inner = list_any (λ position. position == outer.position) inner.outer

-- the ranges of the rows of all sites inside a site
abbrev pub inner_ranges : List IdIndex → List Site → Site → List (ℕ × ℕ)
inner_ranges inlinees sites site = flat_map (λ inner. row_ranges inlinees inner.symbol) (filter (is_inside site) sites)

-- the runs that rows of sites inside a site cover and its own rows don't
abbrev pub missing : List IdIndex → List Site → Site → List (ℕ × ℕ)
missing inlinees sites site = missing_runs (inner_ranges inlinees sites site) (row_ranges inlinees site.symbol)

-- the ranges of sites in reading order: those of their own rows, then those that are added for rows of sites inside
-- them
abbrev pub read_ranges : List IdIndex → List Site → List InlineRange
read_ranges inlinees sites =
    flat_map (λ site. own_ranges inlinees (depth site) site.symbol) sites
    ++ flat_map (λ site. added_ranges inlinees (depth site) site.symbol (missing inlinees sites site)) sites

-- the order of ranges: by depth, then by start
abbrev pub range_cmp : InlineRange → InlineRange → Ordering
range_cmp a b = ordering_then (nat_cmp a.call_depth b.call_depth) (nat_cmp a.start_offset b.start_offset)

-- whether one range comes before another
abbrev pub range_before : InlineRange → InlineRange → Bool
range_before a b = is_lt (range_cmp a b)

-- the ranges of sites sorted by depth and start; ranges with equal depth and start keep the reading order
abbrev pub inline_ranges : List IdIndex → List Site → List InlineRange
inline_ranges inlinees sites = in_order range_before (read_ranges inlinees sites)

-- the inline ranges of the procedure whose symbol is at a position, and whose end symbol is at another; an error if its
-- walk reaches the fault of the module's symbols
abbrev pub procedure_inline_ranges : List IdIndex → ModuleInfo → ℕ → ℕ → Result (List InlineRange) Error
procedure_inline_ranges inlinees info position end =
    let w = walk info.symbols.items info.symbols.fault position end in unless_met w (inline_ranges inlinees w.sites)
