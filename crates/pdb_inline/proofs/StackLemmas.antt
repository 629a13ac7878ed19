-- The stacks that tables for each depth make are those of the inlined bodies.
use Rattle.std.proofs.Common.{◌≡◌, ◌∙◌, ℕ, zero, suc, ◌+◌, ◌-◌, ◌<◌, ◌≤◌, Bool, true, eqb, List, []}
use Rattle.std.proofs.Common.{◌∷◌, ◌++◌, append_assoc, drop, get_or, map, length, length-append, Option, Some, None}
use Rattle.std.proofs.Common.{refl, sym, ap, arith}
use Rattle.std.specs.Prelude.{is_some, option_map, slice_get}
use Rattle.std.specs.List.{AllByRecursion, list_any}
use Rattle.std.specs.Option.{option_to_list}
use Rattle.std.proofs.lemmas.List.{drop_more, length-map}
use Rattle.std.proofs.lemmas.Bool.Decides.{nat_tests}
use Rattle.std.proofs.lemmas.Map.Steps.{le-length_from_below}
use Rattle.pdb_tables.specs.Pick.{pick}
use Rattle.pdb_tables.proofs.PickLemmas.{map-pick}
use Rattle.pdb_inline.specs.declared.inline_ranges.InlineRange.{InlineRange}
use Rattle.pdb_inline.specs.declared.listed_ranges.ListedRange.{ListedRange}
use Rattle.pdb_inline.specs.DepthTables.{picked_positions, with_outer_position, up_to_gap}
use Rattle.pdb_inline.specs.InlineStacks.{lies_over, has_range_over, depths, stack_from, inline_stack}
use Rattle.pdb_inline.specs.ListedRanges.{listed}
use Rattle.pdb_inline.specs.StackTable.{ranges_at}
use Rattle.pdb_inline.proofs.ContainedLemmas as contained
use Rattle.pdb_inline.proofs.ContainedLemmas.{all_at}
use Rattle.pdb_inline.proofs.InlineStackLemmas.{is_some-pick}
use Rattle.pdb_inline.proofs.PickedLemmas.{stack_more}
use Rattle.pdb_inline.proofs.RangeBoundLemmas.{AreAlike, AreNotOver}

-- the test of a range with its position
abbrev pub listed_over : ℕ → ℕ → ListedRange → Bool
listed_over depth x l = lies_over depth x l.range

-- the range that is picked at a depth, with its position
abbrev pub picked_listed : List InlineRange → ℕ → ℕ → Option ListedRange
picked_listed ranges x depth = pick (listed_over depth x) (λ l. l.range.start_offset) (listed 0 ranges)

-- the element behind others stands where they are many
got_behind : {T : Type 0} (xs ys : List T) (y : T) → slice_get (xs ++ y ∷ ys) (length xs) ≡ Some y
got_behind [] ys y = refl
got_behind (x ∷ xs) ys y = got_behind xs ys y

-- the list has each range at its position
listed_found : (ahead ranges : List InlineRange)
    → AllByRecursion (λ (l : ListedRange). slice_get (ahead ++ ranges) l.position ≡ Some l.range)
    (listed (length ahead) ranges)
listed_found ahead [] = tt
listed_found ahead (r ∷ ranges) = (
  got_behind ahead ranges r,
  rw (append_assoc ahead (r ∷ []) ranges, length-append ahead (r ∷ [])) at (listed_found (ahead ++ r ∷ []) ranges),
)

-- without their positions, they are the ranges
map-listed : (position : ℕ) (ranges : List InlineRange)
    → map (λ (l : ListedRange). l.range) (listed position ranges) ≡ ranges
map-listed position [] = refl
map-listed position (r ∷ ranges) = ap (λ rs. r ∷ rs) (map-listed (position + 1) ranges)

-- the range that is picked with its position is the one that is picked
picked_range : (ranges : List InlineRange) (x depth : ℕ)
    → option_map (λ (l : ListedRange). l.range) (picked_listed ranges x depth) ≡ pick (lies_over depth x)
    (λ r. r.start_offset) ranges
picked_range ranges x depth =
    map-pick (λ (l : ListedRange). l.range) (lies_over depth x) (λ r. r.start_offset) (listed 0 ranges)
    ∙ ap (λ rs. pick (lies_over depth x) (λ (r : InlineRange). r.start_offset) rs) (map-listed 0 ranges)

-- a range of a depth over a number is of one of the depths of the ranges
depth_held : (d x : ℕ) (ranges : List InlineRange) → has_range_over ranges d x ≡ true
    → list_any (eqb d) (map (λ r. r.call_depth) ranges) ≡ true
depth_held d x [] there = absurd cc
depth_held d x (r ∷ ranges) there =
    let later : has_range_over ranges d x ≡ true → list_any (eqb d) (map (λ r. r.call_depth) ranges) ≡ true =
    depth_held d x ranges in grind (arith, nat_tests)

-- at each depth ahead of one, ranges lie over a number
abbrev pub AreOverTo : List InlineRange → ℕ → ℕ → Type 0
AreOverTo ranges x depth = (d : ℕ) → d < depth → has_range_over ranges d x ≡ true

-- where ranges of so many depths lie over a number, they are at least as many
depths_fit : (count x : ℕ) (ranges : List InlineRange) → AreOverTo ranges x count → count ≤ length ranges
depths_fit count x ranges each = simp length-map at (le-length_from_below (map (λ r. r.call_depth) ranges) count
    (λ d less. depth_held d x ranges (each d less)))

-- where nothing is picked at a depth, a stack ends ahead of it
stack_ends : (count x depth : ℕ) (ranges : List InlineRange)
    → pick (lies_over depth x) (λ r. r.start_offset) ranges ≡ None → stack_from count ranges x depth ≡ []
stack_ends zero x depth ranges none = refl
stack_ends (suc count) x depth ranges none = rw none refl

-- where ranges lie over a number at each depth ahead of one, and there, they do at each depth ahead of the next
over_one_more : (ranges : List InlineRange) (x depth : ℕ) → AreOverTo ranges x depth
    → has_range_over ranges depth x ≡ true → AreOverTo ranges x (depth + 1)
over_one_more ranges x depth outer there d less = grind arith

-- so nothing is picked at a depth that is not less than how many ranges there are
none_past : (ranges : List InlineRange) (x depth : ℕ) → AreOverTo ranges x depth
    → length ranges ≤ depth → pick (lies_over depth x) (λ r. r.start_offset) ranges ≡ None
none_past ranges x depth outer past =
    let is = is_some-pick (lies_over depth x) (λ (r : InlineRange). r.start_offset) ranges in
    let none : has_range_over ranges depth x ≡ true → ⊥ = λ there. let more =
    depths_fit (depth + 1) x ranges (over_one_more ranges x depth outer there) in omega (arith, more, past) in
    grind arith

-- where ranges lie over a number at each depth ahead of one, and nothing is picked there unless there are no more
-- ranges, a stack ends there
pub stack_is_over : (ranges : List InlineRange) (x depth : ℕ) → AreOverTo ranges x depth
    → (depth < length ranges → pick (lies_over depth x) (λ r. r.start_offset) ranges ≡ None)
    → stack_from (depths ranges - depth) ranges x depth ≡ []
stack_is_over ranges x depth outer none =
    let past = none_past ranges x depth outer in
    stack_ends (depths ranges - depth) x depth ranges (grind arith)

-- with a range that is picked at a depth, ranges lie over a number at each depth up to that one
pub one_more_over : (ranges : List InlineRange) (x depth : ℕ) (range : InlineRange) → AreOverTo ranges x depth
    → pick (lies_over depth x) (λ r. r.start_offset) ranges ≡ Some range → AreOverTo ranges x (depth + 1)
one_more_over ranges x depth range outer picked =
    over_one_more ranges x depth outer
    (sym (is_some-pick (lies_over depth x) (λ (r : InlineRange). r.start_offset) ranges) ∙ ap is_some picked)

-- the positions that are picked from a depth on are those of the stack from there, if there are as many depths as
-- ranges
positions_of_stack : (ranges : List InlineRange) (x count depth : ℕ) → depth + count ≡ length ranges
    → AreOverTo ranges x depth → map (slice_get ranges) (up_to_gap (picked_positions ranges x count depth))
    ≡ map Some (stack_from (depths ranges - depth) ranges x depth)
positions_of_stack ranges x zero depth all outer =
    let past : length ranges ≤ depth = omega (arith, all) in
    rw (stack_is_over ranges x depth outer (λ within. absurd (omega (arith, past, within)))) refl
positions_of_stack ranges x (suc count) depth all outer =
    by_picked (picked_listed ranges x depth) refl (sym (picked_range ranges x depth))
    (positions_of_stack ranges x count (depth + 1) (omega (arith, all)))
  where
    by_picked : (o : Option ListedRange) → picked_listed ranges x depth ≡ o
        → pick (lies_over depth x) (λ r. r.start_offset) ranges ≡ option_map (λ l. l.range) o
        → (AreOverTo ranges x (depth + 1)
        → map (slice_get ranges) (up_to_gap (picked_positions ranges x count (depth + 1))) ≡ map Some
        (stack_from (depths ranges - (depth + 1)) ranges x (depth + 1)))
        → map (slice_get ranges) (with_outer_position (option_map (λ l. l.position) o)
        (up_to_gap (picked_positions ranges x count (depth + 1))))
        ≡ map Some (stack_from (depths ranges - depth) ranges x depth)
    by_picked None is none later = rw (stack_ends (depths ranges - depth) x depth ranges none) refl
    by_picked (Some l) is picked later =
        let one = contained.picked (listed_over depth x) (λ k. k.range.start_offset) (listed 0 ranges) l is in
        let found = all_at (λ k. slice_get ranges k.position ≡ Some k.range) (listed 0 ranges) l
        (listed_found [] ranges) one.1 in
        let rest = later (one_more_over ranges x depth l.range outer picked) in
        rw (stack_more ranges depth x l.range picked, found, rest) refl

-- the positions that tables of what is picked at each depth have for a number are those of the inlined bodies over it
pub positions_are : (ranges : List InlineRange) (x : ℕ)
    → map (slice_get ranges) (up_to_gap (picked_positions ranges x (length ranges) 0)) ≡ map Some
    (inline_stack ranges x)
positions_are ranges x =
    let whole : depths ranges - 0 ≡ depths ranges = omega arith in
    positions_of_stack ranges x (length ranges) 0 (omega arith) (λ d less. absurd (omega arith))
    ∙ ap (λ n. map Some (stack_from n ranges x 0)) whole

-- what passes alike is picked alike
pick_alike : (depth x n k : ℕ) (ranges : List InlineRange) → AreAlike x n ranges
    → pick (listed_over depth x) (λ l. l.range.start_offset) (listed k ranges) ≡ pick (listed_over depth n)
    (λ l. l.range.start_offset) (listed k ranges)
pick_alike depth x n k [] alike = refl
pick_alike depth x n k (r ∷ ranges) alike = rw (alike.0, pick_alike depth x n (k + 1) ranges alike.1) refl

-- so are its positions at all depths
pub positions_alike : (x n : ℕ) (ranges : List InlineRange) (count depth : ℕ) → AreAlike x n ranges
    → picked_positions ranges x count depth ≡ picked_positions ranges n count depth
positions_alike x n ranges zero depth alike = refl
positions_alike x n ranges (suc count) depth alike =
    rw (pick_alike depth x n 0 ranges alike, positions_alike x n ranges count (depth + 1) alike) refl

-- where no range lies over a number none is picked
pick_none : (depth x k : ℕ) (ranges : List InlineRange) → AreNotOver x ranges
    → pick (listed_over depth x) (λ l. l.range.start_offset) (listed k ranges) ≡ None
pick_none depth x k [] none = refl
pick_none depth x k (r ∷ ranges) none = rw (none.0, pick_none depth x (k + 1) ranges none.1) (grind arith)

-- nor is a position
pub positions_none : (x : ℕ) (ranges : List InlineRange) (count depth : ℕ) → AreNotOver x ranges
    → up_to_gap (picked_positions ranges x count depth) ≡ []
positions_none x ranges zero depth none = refl
positions_none x ranges (suc count) depth none = rw (pick_none depth x 0 ranges none) refl

-- what a list has at positions is what it has there in turn
pub ranges_at_are : (ranges : List InlineRange) (positions : List ℕ) (stack : List InlineRange)
    → map (slice_get ranges) positions ≡ map Some stack → ranges_at ranges positions ≡ stack
ranges_at_are ranges [] [] same = refl
ranges_at_are ranges [] (r ∷ stack) same = absurd cc
ranges_at_are ranges (p ∷ positions) [] same = absurd cc
ranges_at_are ranges (p ∷ positions) (r ∷ stack) same =
    let first : slice_get ranges p ≡ Some r = cc in
    rw (first, ranges_at_are ranges positions stack (cc)) refl

-- one position more
pub ranges_at_step : (found ranges whole : List InlineRange) (positions : List ℕ) (i d : ℕ) → i < length positions
    → found ++ ranges_at ranges (drop i positions) ≡ whole
    → (found ++ option_to_list (slice_get ranges (get_or positions i d))) ++ ranges_at ranges (drop (i + 1) positions)
    ≡ whole
ranges_at_step found ranges whole positions i d within all =
    append_assoc found (option_to_list (slice_get ranges (get_or positions i d)))
    (ranges_at ranges (drop (i + 1) positions))
    ∙ rw (drop_more positions i d within) at all
