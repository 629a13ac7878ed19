-- The picked range at each depth.
use Rattle.std.specs.Prelude.{ℕ, ◌+◌, List, [], ◌∷◌, None}
use Rattle.pdb_tables.specs.Pick.{IsPick, IsPicked}
use Rattle.pdb_inline.specs.declared.inline_ranges.InlineRange.{InlineRange}
use Rattle.pdb_inline.specs.InlineStacks.{lies_over}

-- the first of these ranges is picked at a depth, the next one at the next depth, and so on; at the depth after the
-- last one, no range contains the number
abbrev pub ArePickedByDepth : List InlineRange → ℕ → ℕ → List InlineRange → Type 0
ArePickedByDepth ranges x depth [] = IsPicked (lies_over depth x) (λ range. range.start_offset) ranges None
ArePickedByDepth ranges x depth (range ∷ inner) =
    IsPick (lies_over depth x) (λ r. r.start_offset) ranges range × ArePickedByDepth ranges x (depth + 1) inner
