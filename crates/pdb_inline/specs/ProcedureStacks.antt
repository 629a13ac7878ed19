-- When the inline stacks of a procedure are held in a table.
use Rattle.std.specs.Prelude.{ℕ, ◌-◌, ◌*◌, ◌^◌, Bool, List, length, min, nat_le, nat_lt, sum_by, count_by}
use Rattle.pdb_inline.specs.RangeBounds.{bounds}
use Rattle.pdb_inline.specs.declared.inline_ranges.InlineRange.{InlineRange}

-- the number of bounds below `x`
abbrev pub bounds_below : List ℕ → ℕ → ℕ
bounds_below all x = count_by (λ bound. nat_lt bound x) all

-- the number of bounds in a range: those below its end, without those below its start
abbrev pub bounds_within : List ℕ → InlineRange → ℕ
bounds_within all range = bounds_below all range.end_offset - bounds_below all range.start_offset

-- the number of positions in the stacks of ranges, at most 2 ^ 64 - 1: for each range, one for each bound in it
abbrev pub stack_positions : List InlineRange → ℕ
stack_positions ranges = min (sum_by (bounds_within (bounds ranges)) ranges) (2 ^ 64 - 1)

-- whether the stacks of ranges are held in a table: they take at most 64 positions for each range
abbrev pub are_stacks_small : List InlineRange → Bool
are_stacks_small ranges = nat_le (stack_positions ranges) (min (length ranges * 64) (2 ^ 64 - 1))
