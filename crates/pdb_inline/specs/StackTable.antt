-- Tables of stacks of inlined bodies.
use Rattle.std.specs.Prelude.{◌≡◌, ⊤, ℕ, ◌*◌, ◌≤◌, ◌++◌, List, [], ◌∷◌, Option}
use Rattle.std.specs.Prelude.{Some, None, map, length, slice_get, slice_range}
use Rattle.std.specs.Option.{option_to_list}
use Rattle.pdb_tables.specs.declared.segment.Segment.{Segment}
use Rattle.pdb_tables.specs.Segments.{value_at}
use Rattle.pdb_inline.specs.declared.inline_ranges.InlineRange.{InlineRange}
use Rattle.pdb_inline.specs.InlineStacks.{inline_stack}

-- a segment with its stack instead of the range of the stack in a list
abbrev pub with_stack : List ℕ → Segment (ℕ × ℕ) → Segment (List ℕ)
with_stack positions segment = record {
  start = segment.start;
  end = segment.end;
  value = slice_range positions segment.value.0 segment.value.1;
}

-- segments with their stacks
abbrev pub with_stacks : List ℕ → List (Segment (ℕ × ℕ)) → List (Segment (List ℕ))
with_stacks positions segments = map (with_stack positions) segments

-- the range of a stack, if there is one, is inside the list
abbrev pub LiesIn : List ℕ → Option (ℕ × ℕ) → Type 0
LiesIn positions None = ⊤
LiesIn positions (Some bounds) = (bounds.0 ≤ bounds.1) × (bounds.1 ≤ length positions)

-- a stack, empty if there is none
abbrev pub or_empty : Option (List ℕ) → List ℕ
or_empty None = []
or_empty (Some stack) = stack

-- the positions that a table has for `x`
abbrev pub stack_over : List (Segment (List ℕ)) → ℕ → List ℕ
stack_over table x = or_empty (value_at table x)

-- for each number `x`, a table has the positions of the inlined bodies at `x` in a list of ranges, the outermost first
abbrev pub HasStacks : List InlineRange → List (Segment (List ℕ)) → Type 0
HasStacks ranges table = (x : ℕ) → map (slice_get ranges) (stack_over table x) ≡ map Some (inline_stack ranges x)

-- a table has the stacks of a list of ranges, in at most four segments for each range
pub record IsTableOf (ranges : List InlineRange) (table : List (Segment (List ℕ))) : Type 0 where
  pub stacks : HasStacks ranges table
  pub at_most_four_each : length table ≤ 4 * length ranges

-- the ranges at these positions of a list
abbrev pub ranges_at : List InlineRange → List ℕ → List InlineRange
ranges_at ranges [] = []
ranges_at ranges (position ∷ positions) = option_to_list (slice_get ranges position) ++ ranges_at ranges positions
