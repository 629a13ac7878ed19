-- The stack over a number has as many entries as there are depths at which the number is covered.
use Rattle.std.proofs.Common.{◌≡◌, ◌∙◌, ℕ, zero, suc, ◌+◌, ◌≤◌, Bool, true, false, cond, ◌||◌, List, [], ◌∷◌}
use Rattle.std.proofs.Common.{length, refl, sym, ap, arith, add-zero, zero-add, length-drop}
use Rattle.std.specs.List.{list_any}
use Rattle.std.specs.Prelude.{Option, Some, None, is_some}
use Rattle.std.proofs.lemmas.Bool.{lt-leb, ne_eqb, false_from_ne_true}
use Rattle.std.proofs.lemmas.Bool.Decides.{nat_tests}
use Rattle.pdb_records.specs.declared.ids.IdIndex.{IdIndex}
use Rattle.pdb_inline.specs.declared.inline_ranges.InlineRange.{InlineRange}
use Rattle.pdb_tables.specs.Pick.{pick, later_start}
use Rattle.pdb_inline.specs.Sites.{Site, depth}
use Rattle.pdb_inline.specs.InlineRanges.{inline_ranges}
use Rattle.pdb_inline.specs.InlineStacks.{lies_over, has_range_over, is_covered, covered_depths, levels, depths}
use Rattle.pdb_inline.specs.InlineStacks.{stack_from, inline_stack}
use Rattle.pdb_inline.proofs.NestingLemmas.{AreNested}
use Rattle.pdb_inline.proofs.CoverLemmas.{has_range_over_nested}

-- of two, one is picked where either is there
is_some-later_start : {T : Type 0} (start : T → ℕ) (a b : Option T)
    → is_some (later_start start a b) ≡ (is_some a || is_some b)
is_some-later_start start a b = grind (arith, nat_tests)

-- one is picked where one passes the test
pub is_some-pick : {T : Type 0} (over : T → Bool) (start : T → ℕ) (xs : List T)
    → is_some (pick over start xs) ≡ list_any over xs
is_some-pick over start [] = refl
is_some-pick over start (x ∷ xs) =
    let rest = is_some-pick over start xs in
    let both = is_some-later_start start (cond (over x) (Some x) None) (pick over start xs) in grind arith

-- what is covered at a depth is covered at the one above it
pub covered_above : (inlinees : List IdIndex) (sites : List Site) (d x : ℕ)
    → is_covered inlinees sites (d + 1) x ≡ true → is_covered inlinees sites d x ≡ true
covered_above inlinees [] d x covered = absurd cc
covered_above inlinees (site ∷ sites) d x covered =
    let later : is_covered inlinees sites (d + 1) x ≡ true → is_covered inlinees sites d x ≡ true =
    covered_above inlinees sites d x in grind (arith, nat_tests)

-- what isn't covered at a depth isn't below it
not_covered_below : (inlinees : List IdIndex) (sites : List Site) (d x : ℕ) → is_covered inlinees sites d x ≡ false
    → is_covered inlinees sites (d + 1) x ≡ false
not_covered_below inlinees sites d x none = false_from_ne_true (is_covered inlinees sites (d + 1) x)
    (λ covered. let above = covered_above inlinees sites d x covered in cc)

-- no nested site is deeper than the first may be by as many as there are sites
pub not_covered_past : (inlinees : List IdIndex) (from : ℕ) (outer : List ℕ) (sites : List Site) (d x : ℕ)
    → AreNested from outer sites → length outer + length sites ≤ d → is_covered inlinees sites d x ≡ false
not_covered_past inlinees from outer [] d x nested deep = refl
not_covered_past inlinees from outer (site ∷ sites) d x nested deep =
    let step : depth site ≤ length outer = omega (arith, length-drop nested.1.0 outer, ap length nested.1.1) in
    rw (lt-leb d (depth site) (omega arith))
    (not_covered_past inlinees (site.position + 1) (site.position ∷ site.outer) sites d x nested.2 (omega arith))

-- no range is as deep as the depths are many
pub no_range_past : (ranges : List InlineRange) (d x : ℕ) → depths ranges ≤ d → has_range_over ranges d x ≡ false
no_range_past [] d x deep = refl
no_range_past (range ∷ ranges) d x deep =
    rw (ne_eqb range.call_depth d (λ same. omega arith)) (no_range_past ranges d x (omega arith))

-- once a number isn't covered, no depth counts any more
no_depths : (inlinees : List IdIndex) (sites : List Site) (x count d : ℕ) → is_covered inlinees sites d x ≡ false
    → covered_depths inlinees sites x count d ≡ 0
no_depths inlinees sites x zero d none = refl
no_depths inlinees sites x (suc count) d none =
    let rest = no_depths inlinees sites x count (d + 1) (not_covered_below inlinees sites d x none) in grind arith

-- of two counts past which a number isn't covered, both count the same
same_depths : (inlinees : List IdIndex) (sites : List Site) (x m n d : ℕ) → is_covered inlinees sites (d + m) x ≡ false
    → is_covered inlinees sites (d + n) x ≡ false
    → covered_depths inlinees sites x m d ≡ covered_depths inlinees sites x n d
same_depths inlinees sites x zero n d none none' = sym (no_depths inlinees sites x n d (rw (add-zero d) at none))
same_depths inlinees sites x (suc m) zero d none none' =
    no_depths inlinees sites x (suc m) d (rw (add-zero d) at none')
same_depths inlinees sites x (suc m) (suc n) d none none' =
    let next : (k : ℕ) → d + suc k ≡ (d + 1) + k = λ k. omega arith in
    ap (λ (k : ℕ). cond (is_covered inlinees sites d x) 1 0 + k)
    (same_depths inlinees sites x m n (d + 1) (rw (next m) at none) (rw (next n) at none'))

-- a stack has an entry for each depth at which the number is covered
length-stack_from : (inlinees : List IdIndex) (sites : List Site) (ranges : List InlineRange) (x : ℕ)
    → ((d : ℕ) → has_range_over ranges d x ≡ is_covered inlinees sites d x) → (count d : ℕ)
    → length (stack_from count ranges x d) ≡ covered_depths inlinees sites x count d
length-stack_from inlinees sites ranges x same zero d = refl
length-stack_from inlinees sites ranges x same (suc count) d =
    let is = is_some-pick (lies_over d x) (λ (range : InlineRange). range.start_offset) ranges ∙ same d in
    let rest = length-stack_from inlinees sites ranges x same count (d + 1) in
    let none : is_covered inlinees sites d x ≡ false → covered_depths inlinees sites x (suc count) d ≡ 0 =
    no_depths inlinees sites x (suc count) d in grind arith

-- the stack over a number has as many entries as the number has levels
pub length-inline_stack : (inlinees : List IdIndex) (sites : List Site) (x : ℕ) → AreNested 0 [] sites
    → length (inline_stack (inline_ranges inlinees sites) x) ≡ levels inlinees sites x
length-inline_stack inlinees sites x nested =
    let ranges = inline_ranges inlinees sites in
    let same : (d : ℕ) → has_range_over ranges d x ≡ is_covered inlinees sites d x =
    λ d. has_range_over_nested inlinees sites d x nested in
    length-stack_from inlinees sites ranges x same (depths ranges) 0
    ∙ same_depths inlinees sites x (depths ranges) (length sites) 0
    (rw (zero-add (depths ranges)) (sym (same (depths ranges)) ∙ no_range_past ranges (depths ranges) x (omega arith)))
    (rw (zero-add (length sites)) (not_covered_past inlinees 0 [] sites (length sites) x nested (omega arith)))
