-- Slots of picked ranges: one for each depth, in order.
use Rattle.std.specs.Prelude.{ℕ, List, Option}
use Rattle.std.specs.Borrow.{Bor}
use Rattle.std.specs.Option.{option_copied}
use Rattle.pdb_tables.specs.Slots.{held}
use Rattle.pdb_inline.specs.declared.inline_ranges.InlineRange.{InlineRange}

-- the range picked at a depth: the content of its slot, if there is one
abbrev pub picked_at : List (Option (Bor InlineRange)) → ℕ → Option InlineRange
picked_at slots depth = option_copied (held slots depth)
