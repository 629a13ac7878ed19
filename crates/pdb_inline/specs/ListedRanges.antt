-- Inline ranges together with their positions in a list.
use Rattle.std.specs.Prelude.{ℕ, ◌+◌, List, [], ◌∷◌, reverse, Option, Some, option_map, if◌then◌else◌}
use Rattle.std.specs.Ordering.{nat_cmp}
use Rattle.pdb_tables.specs.InOrder.{in_order}
use Rattle.pdb_tables.specs.Keyed.{is_lower}
use Rattle.pdb_tables.specs.Pick.{pick}
use Rattle.pdb_inline.specs.declared.inline_ranges.InlineRange.{InlineRange}
use Rattle.pdb_inline.specs.declared.listed_ranges.ListedRange.{ListedRange}
use Rattle.pdb_inline.specs.InlineStacks.{lies_over}

-- each range with its position, where the first one has the given position
abbrev pub listed : ℕ → List InlineRange → List ListedRange
listed position [] = []
listed position (range ∷ ranges) = record { position = position; range = range } ∷ listed (position + 1) ranges

-- the ranges sorted by start; of equal starts the last of the list comes first
abbrev pub ranges_by_start : List InlineRange → List ListedRange
ranges_by_start ranges = in_order (is_lower nat_cmp (λ listed. listed.range.start_offset)) (reverse (listed 0 ranges))

-- the position of the last range of a depth that contains `x`, or `before` if there is none
abbrev pub last_position : ℕ → ℕ → Option ℕ → List ListedRange → Option ℕ
last_position depth x before [] = before
last_position depth x before (listed ∷ ranges) =
    last_position depth x (if lies_over depth x listed.range then Some listed.position else before) ranges

-- the position of the range that is picked at a depth for `x`
abbrev pub picked_position : List InlineRange → ℕ → ℕ → Option ℕ
picked_position ranges x depth =
    option_map (λ listed. listed.position)
    (pick (λ listed. lies_over depth x listed.range) (λ listed. listed.range.start_offset) (listed 0 ranges))
