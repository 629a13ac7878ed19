-- For each depth, a table of the position of the range that is picked there.
use Rattle.std.specs.Prelude.{ℕ, zero, suc, ◌+◌, List, [], ◌∷◌, Option, Some, None, length, map}
use Rattle.std.specs.Global.{Vec}
use Rattle.pdb_tables.specs.declared.segment.Segment.{Segment}
use Rattle.pdb_tables.specs.Segments.{value_at}
use Rattle.pdb_inline.specs.declared.inline_ranges.InlineRange.{InlineRange}
use Rattle.pdb_inline.specs.ListedRanges.{picked_position}

-- the segments of a depth: the list at that position, or none after the last one
abbrev pub segments_at : List (Vec (Segment ℕ)) → ℕ → List (Segment ℕ)
segments_at [] depth = []
segments_at (list ∷ lists) zero = list.items
segments_at (list ∷ lists) (suc depth) = segments_at lists depth

-- for each of `count` depths from `depth` on, the position of the range that is picked over `x`
abbrev pub picked_positions : List InlineRange → ℕ → ℕ → ℕ → List (Option ℕ)
picked_positions ranges x zero depth = []
picked_positions ranges x (suc count) depth =
    picked_position ranges x depth ∷ picked_positions ranges x count (depth + 1)

-- the positions with an outer one before them; no position at all if the outer one is missing
abbrev pub with_outer_position : Option ℕ → List ℕ → List ℕ
with_outer_position None inner = []
with_outer_position (Some position) inner = position ∷ inner

-- the positions before the first missing one
abbrev pub up_to_gap : List (Option ℕ) → List ℕ
up_to_gap [] = []
up_to_gap (position ∷ positions) = with_outer_position position (up_to_gap positions)

-- the positions of the inline ranges over `x`, the outermost first: one for each depth, up to the first depth without a
-- range. Among equal ranges the first of the list is picked
abbrev pub inline_positions : List InlineRange → ℕ → List ℕ
inline_positions ranges x = up_to_gap (picked_positions ranges x (length ranges) 0)

-- the positions that the tables have for `x`, up to the first table that has none
abbrev pub positions_in : List (List (Segment ℕ)) → ℕ → List ℕ
positions_in tables x = up_to_gap (map (λ table. value_at table x) tables)
