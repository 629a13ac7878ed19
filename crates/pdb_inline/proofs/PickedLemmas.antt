-- The stack that the ranges make which are picked at their depths.
use Rattle.std.proofs.Common.{◌≡◌, ◌∙◌, ℕ, suc, ◌+◌, ◌-◌, ◌<◌, ◌≤◌, false, List, [], ◌∷◌, ◌++◌, length, append_assoc}
use Rattle.std.proofs.Common.{Option, refl, arith}
use Rattle.std.specs.Borrow.{Bor}
use Rattle.std.specs.Prelude.{Some, None}
use Rattle.pdb_tables.specs.Pick.{pick}
use Rattle.pdb_inline.specs.declared.inline_ranges.InlineRange.{InlineRange}
use Rattle.pdb_inline.specs.InlineStacks.{lies_over, has_range_over, depths, stack_from}
use Rattle.pdb_inline.specs.PickedSlots.{picked_at}
use Rattle.pdb_inline.proofs.InlineStackLemmas.{is_some-pick, no_range_past}

-- a depth at which a range is picked is one of the depths of the ranges
pub picked_below : (ranges : List InlineRange) (d x : ℕ) (range : InlineRange)
    → pick (lies_over d x) (λ r. r.start_offset) ranges ≡ Some range → d < depths ranges
picked_below ranges d x range picked =
    let none : depths ranges ≤ d → has_range_over ranges d x ≡ false = no_range_past ranges d x in
    let there = is_some-pick (lies_over d x) (λ (r : InlineRange). r.start_offset) ranges in grind arith

-- with the range that is picked at a depth, a stack goes on at the next one
pub stack_more : (ranges : List InlineRange) (d x : ℕ) (range : InlineRange)
    → pick (lies_over d x) (λ r. r.start_offset) ranges ≡ Some range
    → stack_from (depths ranges - d) ranges x d ≡ range ∷ stack_from (depths ranges - (d + 1)) ranges x (d + 1)
stack_more ranges d x range picked =
    let below : d < depths ranges = picked_below ranges d x range picked in
    let left : depths ranges - d ≡ suc (depths ranges - (d + 1)) = omega arith in
    rw left (rw picked refl)

-- a stack so far, and what follows from its depth on, stay the whole stack where the next range is put at its end
pub stack_step : (ranges : List InlineRange) (d x : ℕ) (range : InlineRange) (stack more whole : List InlineRange)
    → pick (lies_over d x) (λ r. r.start_offset) ranges ≡ Some range
    → stack ++ stack_from (depths ranges - d) ranges x d ≡ whole → more ≡ stack ++ range ∷ []
    → more ++ stack_from (depths ranges - (d + 1)) ranges x (d + 1) ≡ whole
stack_step ranges d x range stack more whole picked all is =
    let rest = stack_from (depths ranges - (d + 1)) ranges x (d + 1) in
    rw is (append_assoc stack (range ∷ []) rest ∙ rw (stack_more ranges d x range picked) at all)

-- where slots have what is picked at each depth that is less than the number of ranges, and nothing behind, what
-- they have is picked
pub slot_is_picked : (slots : List (Option (Bor InlineRange))) (ranges : List InlineRange) (x depth : ℕ)
    (range : InlineRange)
    → ((d : ℕ) → d < length ranges → picked_at slots d ≡ pick (lies_over d x) (λ r. r.start_offset) ranges)
    → ((d : ℕ) → length ranges ≤ d → picked_at slots d ≡ None)
    → picked_at slots depth ≡ Some range → pick (lies_over depth x) (λ r. r.start_offset) ranges ≡ Some range
slot_is_picked slots ranges x depth range picks none is =
    let within = picks depth in let past = none depth in grind arith
