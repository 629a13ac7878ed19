-- Segments whose stacks stand in one list.
use Rattle.std.proofs.Common.{◌≡◌, ◌∙◌, ℕ, ◌-◌, ◌*◌, ◌≤◌, Bool, true, false, cond, List, [], ◌∷◌, ◌++◌, drop, length}
use Rattle.std.proofs.Common.{length-append, Option, Some, None, refl, sym, ap, arith}
use Rattle.std.specs.Prelude.{option_map, slice_range}
use Rattle.std.proofs.Math.Seq.{drop-append_seam}
use Rattle.std.proofs.lemmas.List.{take-append-le, drop-append-le, length-drop, take_all}
use Rattle.pdb_tables.specs.declared.segment.Segment.{Segment}
use Rattle.pdb_tables.specs.RangeSet.{is_within}
use Rattle.pdb_tables.specs.Segments.{painted, value_at}
use Rattle.pdb_tables.specs.Probes.{digits}
use Rattle.pdb_tables.proofs.DigitLemmas.{digits_mono}
use Rattle.pdb_inline.specs.declared.inline_ranges.InlineRange.{InlineRange}
use Rattle.pdb_inline.specs.StackTable.{with_stacks, LiesIn, or_empty, stack_over, IsTableOf}

-- the stack that stands at a place of a list
abbrev pub stack_at : List ℕ → ℕ × ℕ → List ℕ
stack_at positions bounds = slice_range positions bounds.0 bounds.1

-- the value of a number is the stack at its place
pub value_at-with_stacks : (positions : List ℕ) (segments : List (Segment (ℕ × ℕ))) (x : ℕ)
    → value_at (with_stacks positions segments) x ≡ option_map (stack_at positions) (value_at segments x)
value_at-with_stacks positions [] x = refl
value_at-with_stacks positions (s ∷ segments) x =
    let rest = value_at-with_stacks positions segments x in grind arith

-- a stack that is found stands at its place
pub stack_found : (positions : List ℕ) (segments : List (Segment (ℕ × ℕ))) (x : ℕ) (o : Option (ℕ × ℕ))
    → value_at segments x ≡ o
    → or_empty (option_map (stack_at positions) o) ≡ stack_over (with_stacks positions segments) x
stack_found positions segments x o is = rw (value_at-with_stacks positions segments x, is) refl

-- what a list has between two positions stays where it grows
range_grown : (from to : ℕ) (old more : List ℕ) → from ≤ to → to ≤ length old
    → slice_range (old ++ more) from to ≡ slice_range old from to
range_grown from to old more up within =
    rw (drop-append-le from old more (omega arith))
    (take-append-le (to - from) (drop from old) more (omega (arith, length-drop from old)))

-- what is added to a list is what it has from where it ended
range_added : (old more : List ℕ) → slice_range (old ++ more) (length old) (length (old ++ more)) ≡ more
range_added old more =
    let whole : length (old ++ more) - length old ≡ length more = omega (arith, length-append old more) in
    rw (drop-append_seam old more, whole) (take_all (length more) more (omega arith))

-- a stack that is added to a list lies over the numbers that its place is painted over
pub painted_stack : (old more new : List ℕ) (before after : List (Segment (ℕ × ℕ))) (lo hi from to x : ℕ)
    → new ≡ old ++ more → from ≡ length old → to ≡ length new → LiesIn old (value_at before x)
    → value_at after x ≡ painted lo hi (from, to) (value_at before x) x
    → stack_over (with_stacks new after) x ≡ cond (is_within lo hi x) more (stack_over (with_stacks old before) x)
painted_stack old more new before after lo hi from to x grown begins ends lies is =
    sym (stack_found new after x (painted lo hi (from, to) (value_at before x) x) is)
    ∙ (by_test (is_within lo hi x) (value_at before x) lies
    ∙ ap (λ o. cond (is_within lo hi x) more o) (stack_found old before x (value_at before x) refl))
  where
    by_test : (t : Bool) (v : Option (ℕ × ℕ)) → LiesIn old v
        → or_empty (option_map (stack_at new) (cond t (Some (from, to)) v)) ≡ cond t more
        (or_empty (option_map (stack_at old) v))
    by_test true v lies = rw (begins, ends, grown) (range_added old more)
    by_test false None lies = refl
    by_test false (Some bounds) lies = rw grown (range_grown bounds.0 bounds.1 old more lies.0 lies.1)

-- a search in a table of ranges takes no more probes than one in four segments for each range
pub few_segments : (ranges : List InlineRange) (table : List (Segment (List ℕ))) → IsTableOf ranges table
    → digits (length table) ≤ digits (4 * length ranges)
few_segments ranges table is = digits_mono (length table) (4 * length ranges) is.at_most_four_each
