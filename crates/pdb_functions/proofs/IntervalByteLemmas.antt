-- Which bytes intervals have from their claims, and that an overlap of neighbours is one of claims.
use Rattle.std.proofs.Common.{◌≡◌, ◌∙◌, ℕ, ◌<◌, ◌≤◌, Bool, true, false, cond, List, [], ◌∷◌, Some}
use Rattle.std.proofs.Common.{refl, sym, subst, inl, inr, arith}
use Rattle.std.specs.Prelude.{⊤, ◌⊎◌, ◌==◌, ◌&&◌, max, nat_lt, nat_le}
use Rattle.std.specs.List.{AllByRecursion, list_any}
use Rattle.std.proofs.lemmas.Bool.Decides.{nat_tests}
use Rattle.std.proofs.Math.Nat.{max-eq_left, max-eq_right}
use Rattle.pdb_errors.specs.declared.error.Error.{Error}
use Rattle.pdb_errors.specs.declared.error.Error.TheVariants.{OverlappingSectionContributions}
use Rattle.pdb_functions.specs.declared.merged_contributions.ModuleSectionContribution.{ModuleSectionContribution}
use Rattle.pdb_functions.specs.MergedContributions.{is_same_module, intervals_with, intervals_of, overlap_after}
use Rattle.pdb_functions.specs.LookupLaws.{IsFilled, LiesBefore, AreApart, lies_in, LiesInOneOf}
use Rattle.pdb_functions.specs.LookupLaws.{IsApartFrom, NeighboursDiffer, HasByteOf, IsOverlap}
use Rattle.pdb_tables.proofs.NumberLemmas.{cases_lt, cases_le, le-leb, eqb_same}
use Rattle.pdb_functions.proofs.OrderLemmas.{all_weaker}
use Rattle.pdb_functions.proofs.IntervalLemmas.{or_second, same_fields, StartsNoLater, StartsRise, all_of_intervals}
use Rattle.pdb_functions.proofs.IntervalLemmas.{lies_facts, starts_below}

-- neighbours among intervals are never of one module and section
pub intervals_differ : (ms : List ModuleSectionContribution) → NeighboursDiffer (intervals_of ms)
intervals_differ [] = tt
intervals_differ (m ∷ ms) = with_first (intervals_of ms) (intervals_differ ms) where
  longer : (i : ModuleSectionContribution) (is : List ModuleSectionContribution) (e : ℕ) → is_same_module m i ≡ true
      → NeighboursDiffer (i ∷ is) → NeighboursDiffer (record m { end_offset = e } ∷ is)
  longer i [] e same differ = tt
  longer i (j ∷ js) e same differ = let f = same_fields m i same in (rw (f.0, f.1) differ.0, differ.1)

  with_first : (is : List ModuleSectionContribution) → NeighboursDiffer is → NeighboursDiffer (intervals_with m is)
  with_first [] differ = tt
  with_first (i ∷ is) differ = by_test (is_same_module m i) refl where
    by_test : (t : Bool) → is_same_module m i ≡ t
        → NeighboursDiffer (cond t (record m { end_offset = max m.end_offset i.end_offset } ∷ is) (m ∷ i ∷ is))
    by_test true same = longer i is (max m.end_offset i.end_offset) same differ
    by_test false apart = (apart, differ)

-- a claim that lies in one of some intervals lies after what lies before them all
pub lies_behind : (t c : ModuleSectionContribution) (ts : List ModuleSectionContribution)
    → AllByRecursion (LiesBefore t) ts → list_any (lies_in c) ts ≡ true → t.section_index ≡ c.section_index
    → t.end_offset ≤ c.start_offset
lies_behind t c [] before lies one = absurd (cc)
lies_behind t c (u ∷ us) before lies one =
    by_test (lies_in c u) refl before.0 (λ rest. lies_behind t c us before.1 rest one) where
      by_test : (b : Bool) → lies_in c u ≡ b → LiesBefore t u
          → (list_any (lies_in c) us ≡ true → t.end_offset ≤ c.start_offset) → t.end_offset ≤ c.start_offset
      by_test true within (inl less) rest = let f = lies_facts c u within in absurd (omega (arith, f.0))
      by_test true within (inr first) rest = let f = lies_facts c u within in omega (arith, f.2, first.1)
      by_test false without next rest = rest (rw without at lies)

-- a claim that lies in one of the intervals shares no byte with those of other modules
pub apart_from_others : (table : List ModuleSectionContribution) (c : ModuleSectionContribution) → AreApart table
    → LiesInOneOf table c → AllByRecursion (λ interval. IsApartFrom interval c) table
apart_from_others [] c apart lies = tt
apart_from_others (t ∷ ts) c apart lies = by_test (lies_in c t) refl (λ rest. apart_from_others ts c apart.2 rest) where
  behind : lies_in c t ≡ true → (u : ModuleSectionContribution) → LiesBefore t u → IsApartFrom u c
  behind within u (inl less) one differ = let f = lies_facts c t within in absurd (omega (arith, f.0))
  behind within u (inr next) one differ = let f = lies_facts c t within in inl (omega (arith, f.3, next.1))

  by_test : (b : Bool) → lies_in c t ≡ b
      → (list_any (lies_in c) ts ≡ true → AllByRecursion (λ interval. IsApartFrom interval c) ts)
      → AllByRecursion (λ interval. IsApartFrom interval c) (t ∷ ts)
  by_test true within others = (
    λ one differ. absurd (differ (sym (lies_facts c t within).1)),
    all_weaker
        (LiesBefore t) (λ interval. IsApartFrom interval c) (λ u next. behind within u next) ts apart.1,
  )
  by_test false without others = let rest : list_any (lies_in c) ts ≡ true =
      rw without at lies in (λ one differ. inr (lies_behind t c ts apart.1 rest one), others rest)

-- an interval that its neighbour begins in has that byte from a claim of its module
abbrev pub IsReached : List ModuleSectionContribution → List ModuleSectionContribution → Type 0
IsReached claims [] = ⊤
IsReached claims (a ∷ []) = ⊤
IsReached claims (a ∷ b ∷ rest) = (a.section_index ≡ b.section_index → b.start_offset < a.end_offset
    → HasByteOf claims a.section_index a.module_index b.start_offset) × IsReached claims (b ∷ rest)

-- a claim has the bytes between its start and its end
pub has_byte : (m : ModuleSectionContribution) (ms : List ModuleSectionContribution) (offset : ℕ)
    → m.start_offset ≤ offset → offset < m.end_offset → HasByteOf (m ∷ ms) m.section_index m.module_index offset
has_byte m ms offset from to =
    rw (
      eqb_same m.section_index,
      eqb_same m.module_index,
      le-leb m.start_offset offset from,
      lt-ltb offset m.end_offset to,
    ) refl where
      lt-ltb : (a b : ℕ) → a < b → nat_lt a b ≡ true
      lt-ltb a b less = grind (arith, nat_tests)

-- one more claim takes no byte away
pub more_bytes : (m : ModuleSectionContribution) (ms : List ModuleSectionContribution)
    (section module_index offset : ℕ) → HasByteOf ms section module_index offset
    → HasByteOf (m ∷ ms) section module_index offset
more_bytes m ms section module_index offset has =
    or_second ((m.section_index == section) && (m.module_index == module_index) && nat_le m.start_offset offset
    && nat_lt offset m.end_offset)
    (list_any (λ c. (c.section_index == section) && (c.module_index == module_index) && nat_le c.start_offset offset
    && nat_lt offset c.end_offset) ms) has

-- intervals are reached by claims that start in order
pub intervals_reached : (ms : List ModuleSectionContribution) → StartsRise ms → IsReached ms (intervals_of ms)
intervals_reached [] up = tt
intervals_reached (m ∷ ms) up =
    with_first (intervals_of ms) (all_of_intervals (StartsNoLater m) (λ n e longer later. later) ms up.0)
    (intervals_reached ms up.1) where
      more : (is : List ModuleSectionContribution) → IsReached ms is → IsReached (m ∷ ms) is
      more [] reached = tt
      more (a ∷ []) reached = tt
      more (a ∷ b ∷ rest) reached = (
        λ one below. more_bytes m ms a.section_index a.module_index b.start_offset (reached.0 one below),
        more
            (b ∷ rest) reached.1,
      )

      own : (b : ModuleSectionContribution) → StartsNoLater m b → m.section_index ≡ b.section_index
          → b.start_offset < m.end_offset → HasByteOf (m ∷ ms) m.section_index m.module_index b.start_offset
      own b later one below = has_byte m ms b.start_offset (starts_below m b later one) below

      joined : (i : ModuleSectionContribution) (is : List ModuleSectionContribution) → is_same_module m i ≡ true
          → AllByRecursion (StartsNoLater m) is → IsReached ms (i ∷ is)
          → IsReached (m ∷ ms) (record m { end_offset = max m.end_offset i.end_offset } ∷ is)
      joined i [] same later rest = tt
      joined i (j ∷ js) same later rest =
          (λ one below. by_end one below (cases_lt j.start_offset i.end_offset), more (j ∷ js) rest.1) where
            by_end : m.section_index ≡ j.section_index → j.start_offset < max m.end_offset i.end_offset
                → ((nat_lt j.start_offset i.end_offset ≡ true) × (j.start_offset < i.end_offset)) ⊎
                ((nat_lt j.start_offset i.end_offset ≡ false) × (i.end_offset ≤ j.start_offset))
                → HasByteOf (m ∷ ms) m.section_index m.module_index j.start_offset
            by_end one below (inl within) =
                let f = same_fields m i same in
                more_bytes m ms m.section_index m.module_index j.start_offset
                (rw (f.0, f.1) (rest.0 (sym f.0 ∙ one) within.1))
            by_end one below (inr beyond) = own j later.0 one (by_max (cases_le m.end_offset i.end_offset)) where
              by_max : ((nat_le m.end_offset i.end_offset ≡ true) × (m.end_offset ≤ i.end_offset)) ⊎
                  ((nat_le m.end_offset i.end_offset ≡ false) × (i.end_offset < m.end_offset))
                  → j.start_offset < m.end_offset
              by_max (inl less) = let h = rw (max-eq_right less.1) at below in absurd (omega (arith, h, beyond.1))
              by_max (inr greater) = let k : i.end_offset ≤ m.end_offset =
                  (let l : i.end_offset < m.end_offset = greater.1 in omega arith) in rw (max-eq_left k) at below

      with_first : (is : List ModuleSectionContribution) → AllByRecursion (StartsNoLater m) is → IsReached ms is
          → IsReached (m ∷ ms) (intervals_with m is)
      with_first [] later rest = tt
      with_first (i ∷ is) later rest = by_test (is_same_module m i) refl where
        by_test : (t : Bool) → is_same_module m i ≡ t
            → IsReached (m ∷ ms) (cond t (record m { end_offset = max m.end_offset i.end_offset } ∷ is) (m ∷ i ∷ is))
        by_test true same = joined i is same later.1 rest
        by_test false apart = (λ one below. own i later.0 one below, more (i ∷ is) rest)

-- the first byte of an interval is one of a claim of its module
abbrev pub HasFirstByteOf : List ModuleSectionContribution → ModuleSectionContribution → Type 0
HasFirstByteOf claims i = HasByteOf claims i.section_index i.module_index i.start_offset

-- and so it is with all intervals of claims with bytes
pub first_bytes : (ms : List ModuleSectionContribution) → AllByRecursion IsFilled ms
    → AllByRecursion (HasFirstByteOf ms) (intervals_of ms)
first_bytes [] filled = tt
first_bytes (m ∷ ms) filled = with_first (intervals_of ms) (first_bytes ms filled.1) where
  more : (is : List ModuleSectionContribution) → AllByRecursion (HasFirstByteOf ms) is
      → AllByRecursion (HasFirstByteOf (m ∷ ms)) is
  more is all = all_weaker (HasFirstByteOf ms) (HasFirstByteOf (m ∷ ms))
      (λ i has. more_bytes m ms i.section_index i.module_index i.start_offset has) is all

  own : HasByteOf (m ∷ ms) m.section_index m.module_index m.start_offset
  own = has_byte m ms m.start_offset (omega arith) filled.0

  with_first : (is : List ModuleSectionContribution) → AllByRecursion (HasFirstByteOf ms) is
      → AllByRecursion (HasFirstByteOf (m ∷ ms)) (intervals_with m is)
  with_first [] rest = (own, tt)
  with_first (i ∷ is) rest = by_test (is_same_module m i) where
    by_test : (t : Bool) → AllByRecursion (HasFirstByteOf (m ∷ ms))
        (cond t (record m { end_offset = max m.end_offset i.end_offset } ∷ is) (m ∷ i ∷ is))
    by_test true = (own, more is rest.1)
    by_test false = (own, more (i ∷ is) rest)

-- an overlap of neighbours shows a byte that claims of two modules have
pub overlap_shown : (claims : List ModuleSectionContribution) (m : ModuleSectionContribution)
    (is : List ModuleSectionContribution) → AllByRecursion (HasFirstByteOf claims) is → IsReached claims (m ∷ is)
    → NeighboursDiffer (m ∷ is) → (e : Error) → overlap_after (Some m) is ≡ Some e → IsOverlap claims e
overlap_shown claims m [] first reached differ e refused = absurd (cc)
overlap_shown claims m (i ∷ is) first reached differ e refused =
    by_tests (m.section_index == i.section_index) refl (nat_lt i.start_offset m.end_offset) refl
    (λ later. overlap_shown claims i is first.1 reached.1 differ.1 e later) where
      shown : m.section_index ≡ i.section_index → i.start_offset < m.end_offset
          → IsOverlap claims (OverlappingSectionContributions i.section_index m.module_index i.module_index)
      shown one below = (
        λ same. let h : is_same_module m i ≡ true =
            rw (one, same, eqb_same i.section_index, eqb_same i.module_index) refl in absurd (cc differ.0),
        (i.start_offset, (rw (← one) (reached.0 one below), first.0)),
      )

      by_tests : (t : Bool) → (m.section_index == i.section_index) ≡ t → (u : Bool)
          → nat_lt i.start_offset m.end_offset ≡ u → (overlap_after (Some i) is ≡ Some e → IsOverlap claims e)
          → IsOverlap claims e
      by_tests true one true below rest =
          let is_e : OverlappingSectionContributions i.section_index m.module_index i.module_index ≡ e =
          (let h = rw (one, below) at refused in cc) in
          subst (IsOverlap claims) is_e (shown (grind (arith, nat_tests)) (grind (arith, nat_tests)))
      by_tests true one false beyond rest = rest (rw (one, beyond) at refused)
      by_tests false other u below rest = rest (rw other at refused)
