-- Values of numbers, held as segments: each is a range of numbers that have one value.
use Rattle.std.specs.Prelude.{ℕ, ◌<◌, ◌≤◌, List, [], ◌∷◌, Option, Some, None, if◌then◌else◌}
use Rattle.pdb_tables.specs.declared.segment.Segment.{Segment}
use Rattle.pdb_tables.specs.RangeSet.{is_within}

-- the value of x after the numbers from lo up to hi (exclusive) got a value, if it was `before`
abbrev pub painted : {T : Type 0} → ℕ → ℕ → T → Option T → ℕ → Option T
painted lo hi value before x = if is_within lo hi x then Some value else before

-- the value at x: that of the first segment that contains x
abbrev pub value_at : {T : Type 0} → List (Segment T) → ℕ → Option T
value_at [] x = None
value_at (segment ∷ segments) x = painted segment.start segment.end segment.value (value_at segments x) x

-- the value of x after the segments were painted in order, if it was `before`
abbrev pub painted_in_turn : {T : Type 0} → List (Segment T) → Option T → ℕ → Option T
painted_in_turn [] before x = before
painted_in_turn (segment ∷ segments) before x =
    painted_in_turn segments (painted segment.start segment.end segment.value before x) x

-- the segments ascend from n on: none is empty, and none begins before the end of the one before it
abbrev pub IsOrderedFrom : {T : Type 0} → ℕ → List (Segment T) → Type 0
IsOrderedFrom n [] = Unit {0}
IsOrderedFrom n (segment ∷ segments) =
    (n ≤ segment.start) × (segment.start < segment.end) × IsOrderedFrom segment.end segments
