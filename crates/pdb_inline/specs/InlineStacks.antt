-- Inline stacks: the inlined bodies at an offset `x`.
use Rattle.std.specs.Prelude.{◌≡◌, IsTrue, Contains, slice_get, ◌++◌, ℕ, zero, suc, ◌+◌, ◌==◌, ◌&&◌, Bool}
use Rattle.std.specs.Prelude.{List, [], ◌∷◌, Option, Some, None, length, max, nat_le, if◌then◌else◌}
use Rattle.std.specs.List.{list_any}
use Rattle.pdb_tables.specs.RangeSet.{is_within, has}
use Rattle.pdb_records.specs.declared.ids.IdIndex.{IdIndex}
use Rattle.pdb_inline.specs.declared.inline_ranges.InlineRange.{InlineRange}
use Rattle.pdb_inline.specs.SiteRows.{row_ranges}
use Rattle.pdb_inline.specs.InlineRanges.{own_ranges, added_ranges, missing}
use Rattle.pdb_tables.specs.Pick.{pick}
use Rattle.pdb_inline.specs.Sites.{Site, depth}

-- whether a range has this depth and contains `x`
abbrev pub lies_over : ℕ → ℕ → InlineRange → Bool
lies_over depth x range = (range.call_depth == depth) && is_within range.start_offset range.end_offset x

-- whether one of these ranges has this depth and contains `x`
abbrev pub has_range_over : List InlineRange → ℕ → ℕ → Bool
has_range_over ranges depth x = list_any (lies_over depth x) ranges

-- whether `x` is covered at a depth: a row of a site at least that deep contains it
abbrev pub is_covered : List IdIndex → List Site → ℕ → ℕ → Bool
is_covered inlinees sites least x =
    list_any (λ site. nat_le least (depth site) && has (row_ranges inlinees site.symbol) x) sites

-- the number of depths at which `x` is covered, among this many depths from `depth` on
abbrev pub covered_depths : List IdIndex → List Site → ℕ → ℕ → ℕ → ℕ
covered_depths inlinees sites x zero depth = 0
covered_depths inlinees sites x (suc count) depth =
    (if is_covered inlinees sites depth x then 1 else 0) + covered_depths inlinees sites x count (depth + 1)

-- the number of depths at which `x` is covered; each depth is less than the number of sites
abbrev pub levels : List IdIndex → List Site → ℕ → ℕ
levels inlinees sites x = covered_depths inlinees sites x (length sites) 0

-- one more than the greatest depth of a range
abbrev pub depths : List InlineRange → ℕ
depths [] = 0
depths (range ∷ ranges) = max (range.call_depth + 1) (depths ranges)

-- the range that is picked at a depth, with those of the deeper ones; none if there is no range
abbrev pub with_outer : Option InlineRange → List InlineRange → List InlineRange
with_outer None inner = []
with_outer (Some range) inner = range ∷ inner

-- the picked ranges at `x` from a depth on, up to the first depth without a range there, and for at most this many
-- depths. At each depth the range with the greatest start is picked; among equal starts, the first
abbrev pub stack_from : ℕ → List InlineRange → ℕ → ℕ → List InlineRange
stack_from zero ranges x depth = []
stack_from (suc count) ranges x depth =
    with_outer (pick (lies_over depth x) (λ range. range.start_offset) ranges) (stack_from count ranges x (depth + 1))

-- the inlined bodies at `x`, the outermost first
abbrev pub inline_stack : List InlineRange → ℕ → List InlineRange
inline_stack ranges x = stack_from (depths ranges) ranges x 0

-- the ranges of a site: those of its own rows, and the added ones
abbrev pub site_ranges : List IdIndex → List Site → Site → List InlineRange
site_ranges inlinees sites site =
    own_ranges inlinees (depth site) site.symbol
    ++ added_ranges inlinees (depth site) site.symbol (missing inlinees sites site)

-- whether a site has a range that contains `x`
abbrev pub is_over : List IdIndex → List Site → ℕ → Site → Bool
is_over inlinees sites x site = has_range_over (site_ranges inlinees sites site) (depth site) x

-- at each depth, at most one site has ranges that contain `x`
abbrev pub IsSoleOver : List IdIndex → List Site → ℕ → Type 0
IsSoleOver inlinees sites x = (a b : Site) → Contains sites a → Contains sites b → depth a ≡ depth b
    → IsTrue (is_over inlinees sites x a) → IsTrue (is_over inlinees sites x b) → a.position ≡ b.position

-- a site is directly inside another: the other is the innermost site around it
abbrev pub IsDirectlyInside : Site → Site → Type 0
IsDirectlyInside outer inner = slice_get inner.outer 0 ≡ Some outer.position
