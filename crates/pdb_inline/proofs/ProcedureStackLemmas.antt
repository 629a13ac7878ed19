-- How many bounds of ranges lie in a range, counted by a search.
use Rattle.std.proofs.Common.{◌≡◌, ◌∙◌, ℕ, zero, suc, ◌+◌, ◌-◌, ◌*◌, ◌≤◌, ◌<◌, Bool, true, false, ltb, cond}
use Rattle.std.proofs.Common.{List, [], ◌∷◌, length, get_or, take, min, ◌^◌, refl, ap, arith}
use Rattle.std.specs.Prelude.{count_by, nat_lt, sum_by}
use Rattle.std.specs.List.Sorted.{IsPermutation, IsSorted, IsPartitionPoint, IsPartitionedBy}
use Rattle.std.specs.Ordering.{nat_cmp}
use Rattle.std.proofs.lemmas.Bool.Decides.{nat_tests}
use Rattle.std.proofs.lemmas.List.Recursion.{is_count_by}
use Rattle.std.proofs.lemmas.List.Sorted.{IsNonDecreasingBy-from_sort, sum_by-IsPermutation}
use Rattle.std.proofs.lemmas.List.Sums.{sum_by_more}
use Rattle.pdb_tables.specs.Probes.{digits}
use Rattle.pdb_tables.proofs.DigitLemmas.{digits_double}
use Rattle.pdb_inline.specs.ProcedureStacks.{bounds_below, bounds_within}
use Rattle.pdb_inline.specs.RangeBounds.{bounds}
use Rattle.pdb_inline.specs.declared.inline_ranges.InlineRange.{InlineRange}

-- how many of these pass a test
abbrev passing : (ℕ → Bool) → List ℕ → ℕ
passing p [] = 0
passing p (x ∷ xs) = cond (p x) (1 + passing p xs) (passing p xs)

-- where a list is parted by a test, as many pass as stand before the place
passing_to_place : (p : ℕ → Bool) (xs : List ℕ) (i : ℕ) → i ≤ length xs
    → IsPartitionPoint (λ y. p y ≡ true) (λ y. p y ≡ false) xs i → i ≡ passing p xs
passing_to_place p [] i within parted = omega (arith, within)
passing_to_place p (x ∷ xs) zero within parted =
    let first : p x ≡ false = parted.1 0 x (omega arith) (omega arith) in
    rw first (passing_to_place p xs zero (omega arith)
    ((λ k d from to. absurd (omega arith)), (λ k d from to. parted.1 (suc k) d (omega arith) (omega arith))))
passing_to_place p (x ∷ xs) (suc i) within parted =
    let first : p x ≡ true = parted.0 0 x (omega arith) (omega arith) in
    let rest = passing_to_place p xs i (omega arith) (
      (λ k d from to. parted.0 (suc k) d (omega arith) (omega arith)),
      (λ k d from to. parted.1 (suc k) d (omega arith) (omega arith)),
    ) in
    rw first (omega (arith, rest))

-- where a list is parted by a test, as many pass as stand before the place
pub counted_to_place : (p : ℕ → Bool) (xs : List ℕ) (i : ℕ) → i ≤ length xs
    → IsPartitionPoint (λ y. p y ≡ true) (λ y. p y ≡ false) xs i → i ≡ count_by p xs
counted_to_place p xs i within parted =
    passing_to_place p xs i within parted ∙ is_count_by (passing p) p refl (λ x rest. refl) xs

-- bounds that ascend are parted by a number
pub bounds_parted : (bounds : List ℕ) (x : ℕ) → IsSorted nat_cmp bounds
    → IsPartitionedBy (λ bound. nat_lt bound x) bounds
bounds_parted bounds x sorted i j d up within lower =
    let below = IsNonDecreasingBy-from_sort (λ bound. bound) bounds sorted i j d up within in
    grind (arith, nat_tests)

-- as many bounds are below a number in whatever order they stand
pub bounds_below_sorted : (bounds sorted : List ℕ) (x : ℕ) → IsPermutation bounds sorted
    → bounds_below sorted x ≡ bounds_below bounds x
bounds_below_sorted bounds sorted x is = sum_by-IsPermutation (λ bound. cond (ltb bound x) 1 0) bounds sorted is

-- the positions of one more range are counted
pub positions_next : (ranges : List InlineRange) (sorted : List ℕ) (i : ℕ) (d : InlineRange) (count start end : ℕ)
    → IsPermutation (bounds ranges) sorted → i < length ranges
    → start ≡ bounds_below sorted (get_or ranges i d).start_offset
    → end ≡ bounds_below sorted (get_or ranges i d).end_offset
    → count ≡ min (sum_by (bounds_within (bounds ranges)) (take i ranges)) (2 ^ 64 - 1)
    → min (count + (end - start)) (2 ^ 64 - 1)
    ≡ min (sum_by (bounds_within (bounds ranges)) (take (i + 1) ranges)) (2 ^ 64 - 1)
positions_next ranges sorted i d count start end is within from to so_far =
    let range = get_or ranges i d in
    omega (
      arith,
      so_far,
      from,
      to,
      bounds_below_sorted (bounds ranges) sorted range.start_offset is,
      bounds_below_sorted (bounds ranges) sorted range.end_offset is,
      sum_by_more (bounds_within (bounds ranges)) ranges i d within,
    )

-- four times a number has at most two digits more
pub digits_quadruple : (n : ℕ) → digits (4 * n) ≤ digits n + 2
digits_quadruple n =
    let twice : 4 * n ≡ 2 * (2 * n) = omega arith in
    omega (arith, ap digits twice, digits_double n, digits_double (2 * n))
