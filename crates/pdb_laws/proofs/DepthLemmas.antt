-- What a stack has at each depth.
use Rattle.std.proofs.Common.{◌≡◌, ℕ, zero, suc, ◌+◌, ◌≤◌, true, List, [], ◌∷◌, Option, Some, None, arith}
use Rattle.std.specs.List.{AllByRecursion}
use Rattle.std.proofs.lemmas.Bool.Decides.{nat_tests}
use Rattle.std.proofs.Math.Nat.{le-max_left, le-max_right}
use Rattle.pdb_tables.specs.Pick.{pick, IsPicked}
use Rattle.pdb_tables.proofs.PickLemmas.{pick_is_picked}
use Rattle.pdb_inline.specs.declared.inline_ranges.InlineRange.{InlineRange}
use Rattle.pdb_inline.specs.InlineStacks.{lies_over, depths, with_outer, stack_from}
use Rattle.pdb_laws.specs.Picks.{ArePickedByDepth}

-- no range is of a depth that all depths are below
none_that_deep : (ranges : List InlineRange) (x depth : ℕ) → depths ranges ≤ depth
    → AllByRecursion (λ range. lies_over depth x range ≡ true → ⊥) ranges
none_that_deep [] x depth below = tt
none_that_deep (range ∷ ranges) x depth below = (λ over. not_of_depth over, none_that_deep ranges x depth rest) where
  here : range.call_depth + 1 ≤ depth
  here = let h = le-max_left (range.call_depth + 1) (depths ranges) in omega arith

  rest : depths ranges ≤ depth
  rest = let h = le-max_right (range.call_depth + 1) (depths ranges) in omega arith

  not_of_depth : lies_over depth x range ≡ true → ⊥
  not_of_depth over = let same : range.call_depth ≡ depth = grind (arith, nat_tests) in absurd (omega (arith, here))

-- a stack has at each depth what is picked there, and ends where nothing is
pub picked_by_depth : (count : ℕ) (ranges : List InlineRange) (x depth : ℕ) → depths ranges ≤ count + depth
    → ArePickedByDepth ranges x depth (stack_from count ranges x depth)
picked_by_depth zero ranges x depth enough = none_that_deep ranges x depth (omega arith)
picked_by_depth (suc count) ranges x depth enough =
    by_pick (pick (lies_over depth x) (λ range. range.start_offset) ranges)
    (pick_is_picked (lies_over depth x) (λ range. range.start_offset) ranges)
    (picked_by_depth count ranges x (depth + 1) (omega arith))
  where
    by_pick : (found : Option InlineRange) → IsPicked (lies_over depth x) (λ range. range.start_offset) ranges found
        → ArePickedByDepth ranges x (depth + 1) (stack_from count ranges x (depth + 1))
        → ArePickedByDepth ranges x depth (with_outer found (stack_from count ranges x (depth + 1)))
    by_pick None none inner = none
    by_pick (Some range) picked inner = (picked, inner)
