-- What changes at the bounds of ranges alone.
use Rattle.std.proofs.Common.{◌≡◌, ℕ, zero, suc, ◌≤◌, false, List, [], ◌∷◌, length, refl, arith, inl, inr}
use Rattle.std.specs.Prelude.{◌⊎◌, ◌*◌}
use Rattle.std.specs.List.{AllByRecursion, Contains}
use Rattle.std.specs.List.Sorted.{IsPermutation, IsSorted}
use Rattle.std.specs.Ordering.{nat_cmp}
use Rattle.std.proofs.lemmas.Bool.Decides.{nat_tests}
use Rattle.std.proofs.lemmas.Cmp.{nat_cmp_total}
use Rattle.std.proofs.lemmas.List.Sorted.{Contains-permutation, ranks_by}
use Rattle.pdb_tables.specs.Keyed.{is_lower}
use Rattle.pdb_tables.specs.RangeSet.{is_within}
use Rattle.pdb_tables.proofs.HasLemmas.{within_above}
use Rattle.pdb_tables.proofs.SortLemmas.{Rises, rises_from_sorted}
use Rattle.pdb_inline.specs.declared.inline_ranges.InlineRange.{InlineRange}
use Rattle.pdb_inline.specs.RangeBounds.{bounds, ChangesAt}
use Rattle.pdb_inline.proofs.ContainedLemmas.{contains_later, all_at, all_map}
use Rattle.pdb_inline.proofs.LastPickedLemmas.{no_less_from}

-- a number is up to another, or one of these
abbrev pub IsHeld : ℕ → List ℕ → ℕ → Type 0
IsHeld n bs v = (v ≤ n) ⊎ Contains bs v

-- so are both bounds of a range
abbrev pub AreHeld : ℕ → List ℕ → InlineRange → Type 0
AreHeld n bs r = IsHeld n bs r.start_offset × IsHeld n bs r.end_offset

-- a range lies over two numbers alike
abbrev pub IsAlike : ℕ → ℕ → InlineRange → Type 0
IsAlike m n r = is_within r.start_offset r.end_offset m ≡ is_within r.start_offset r.end_offset n

-- a range doesn't lie over a number
abbrev pub IsNotOver : ℕ → InlineRange → Type 0
IsNotOver n r = is_within r.start_offset r.end_offset n ≡ false

-- ranges lie over two numbers alike
abbrev pub AreAlike : ℕ → ℕ → List InlineRange → Type 0
AreAlike m n ranges = AllByRecursion (IsAlike m n) ranges

-- no range lies over a number
abbrev pub AreNotOver : ℕ → List InlineRange → Type 0
AreNotOver n ranges = AllByRecursion (IsNotOver n) ranges

-- no bound lies between a number and the next bound
held_apart : (n v b : ℕ) (bs : List ℕ) → AllByRecursion (λ c. b ≤ c) bs → IsHeld n (b ∷ bs) v → (v ≤ n) ⊎ (b ≤ v)
held_apart n v b bs all (inl up_to) = inl up_to
held_apart n v b bs all (inr there) = inr (all_at (λ c. b ≤ c) (b ∷ bs) v (omega arith, all) there)

-- a bound that isn't past the next one is up to it
held_next : (n v b : ℕ) (bs : List ℕ) → n ≤ b → IsHeld n (b ∷ bs) v → IsHeld b bs v
held_next n v b bs up (inl up_to) = inl (omega arith)
held_next n v b bs up (inr (zero, within, is)) = inl (omega (arith, is))
held_next n v b bs up (inr (suc k, within, is)) = inr (k, omega arith, is)

-- past the last bound no range lies over a number
none_past : (n x : ℕ) (r : InlineRange) → n ≤ x → AreHeld n [] r → IsNotOver x r
none_past n x r up (start, inl past) = within_above r.start_offset r.end_offset x (omega arith)
none_past n x r up (start, inr (k, within, is)) = absurd (omega arith)

-- values that are the same where ranges lie alike, and nothing where none lies, change at the ranges' bounds alone
changes_at_bounds : (values : ℕ → List ℕ) (ranges : List InlineRange)
    → ((x n : ℕ) → AreAlike x n ranges → values x ≡ values n) → ((x : ℕ) → AreNotOver x ranges → values x ≡ [])
    → (n : ℕ) (bs : List ℕ) → AllByRecursion (λ b. n ≤ b) bs → Rises (is_lower nat_cmp (λ m. m)) bs
    → AllByRecursion (AreHeld n bs) ranges → ChangesAt values n bs
changes_at_bounds values ranges alike none n [] low up held =
    λ x from. none x (all_map (AreHeld n []) (IsNotOver x) (λ r. none_past n x r from) ranges held)
changes_at_bounds values ranges alike none n (b ∷ bs) low up held =
    let all = all_map (λ c. is_lower nat_cmp (λ m. m) c b ≡ false) (λ c. b ≤ c) (λ c. no_less_from c b) bs up.0 in
    let apart = λ (v : ℕ) (h : IsHeld n (b ∷ bs) v). held_apart n v b bs all h in
    let next = λ (v : ℕ) (h : IsHeld n (b ∷ bs) v). held_next n v b bs low.0 h in (
      low.0,
      (λ x from below. alike x n (all_map (AreHeld n (b ∷ bs)) (IsAlike x n) (λ r h.
          let start = apart r.start_offset h.0 in let end = apart r.end_offset h.1 in grind (arith, nat_tests))
          ranges held)),
      changes_at_bounds values ranges alike none b bs all up.1 (all_map (AreHeld n (b ∷ bs)) (AreHeld b bs)
          (λ r h. (next r.start_offset h.0, next r.end_offset h.1)) ranges held),
    )

-- the bounds of ranges are among all of them
own_held : (more : List ℕ) (ranges : List InlineRange) → ((v : ℕ) → Contains (bounds ranges) v → Contains more v)
    → AllByRecursion (AreHeld 0 more) ranges
own_held more [] within = tt
own_held more (r ∷ ranges) within = (
  (
    inr (within r.start_offset (zero, omega arith, refl)),
    inr (within r.end_offset (suc zero, omega arith, refl)),
  ),
  own_held more ranges (λ v there. within v (contains_later r.start_offset v (r.end_offset ∷ bounds ranges)
      (contains_later r.end_offset v (bounds ranges) there))),
)

-- numbers are no smaller than 0
all_from_zero : (bs : List ℕ) → AllByRecursion (λ b. 0 ≤ b) bs
all_from_zero [] = tt
all_from_zero (b ∷ bs) = (omega arith, all_from_zero bs)

-- such values change at the sorted bounds alone
pub changes_at_sorted : (values : ℕ → List ℕ) (ranges : List InlineRange) (bs : List ℕ)
    → ((x n : ℕ) → AreAlike x n ranges → values x ≡ values n) → ((x : ℕ) → AreNotOver x ranges → values x ≡ [])
    → IsPermutation (bounds ranges) bs → IsSorted nat_cmp bs → ChangesAt values 0 bs
changes_at_sorted values ranges bs alike none same sorted =
    changes_at_bounds values ranges alike none 0 bs (all_from_zero bs)
    (rises_from_sorted (ranks_by nat_cmp_total (λ n. n)) bs sorted)
    (own_held bs ranges (λ v there. Contains-permutation (bounds ranges) bs v same there))

-- ranges have two bounds each
pub length-bounds : (ranges : List InlineRange) → length (bounds ranges) ≡ 2 * length ranges
length-bounds [] = refl
length-bounds (r ∷ ranges) = omega (arith, length-bounds ranges)
