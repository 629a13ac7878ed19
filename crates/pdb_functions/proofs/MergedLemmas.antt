-- Merged contributions: what is known of them, and of their refusals.
use Rattle.std.proofs.Common.{◌≡◌, ◌∙◌, ◌+◌, ◌^◌, ℕ, ◌<◌, ◌≤◌, Bool, true, false, cond, List, [], ◌∷◌, map, Option}
use Rattle.std.proofs.Common.{Some, None, Ok, Err, Result, refl, sym, inl, inr, arith}
use Rattle.std.specs.Prelude.{◌⊎◌, ◌==◌, ◌&&◌, nat_lt, nat_le, filter, find}
use Rattle.std.specs.List.{AllByRecursion}
use Rattle.std.proofs.lemmas.Bool.Decides.{nat_tests}
use Rattle.pdb_records.specs.declared.addresses.ImageSectionHeader.{ImageSectionHeader}
use Rattle.pdb_records.specs.declared.debug_information.SectionContribution.{SectionContribution}
use Rattle.pdb_records.specs.declared.debug_information.DebugInformation.{DebugInformation}
use Rattle.pdb_records.specs.declared.error.Error.TheVariants.{Stream}
use Rattle.pdb_records.specs.declared.error.StreamError.{StreamError}
use Rattle.pdb_errors.specs.declared.error.Error.{Error}
use Rattle.pdb_errors.specs.declared.error.Error.TheVariants.{PdbError, SectionContributionEndTooLarge}
use Rattle.pdb_errors.specs.declared.error.Error.TheVariants.{OverlappingSectionContributions}
use Rattle.pdb_errors.specs.Outcomes.{unless}
use Rattle.pdb_functions.specs.declared.merged_contributions.ModuleSectionContribution.{ModuleSectionContribution}
use Rattle.pdb_tables.specs.InOrder.{in_order}
use Rattle.pdb_functions.specs.MergedContributions.{is_counted, claimed, claims, is_same_module, refused_ends}
use Rattle.pdb_functions.specs.MergedContributions.{reading_refusal, contribution_before, ordered_claims, intervals_of}
use Rattle.pdb_functions.specs.MergedContributions.{overlap_after, merged_contributions}
use Rattle.pdb_functions.specs.LookupLaws.{IsFilled, AreApart, LiesInOneOf, BeginsWithOneOf, EndsWithOneOf}
use Rattle.pdb_functions.specs.LookupLaws.{IsApartFrom, NeighboursDiffer, IsOverlap}
use Rattle.pdb_tables.proofs.NumberLemmas.{cases_lt}
use Rattle.pdb_tables.proofs.SortLemmas.{rises_in_order}
use Rattle.pdb_functions.proofs.ContributionLemmas.{contributions_rank}
use Rattle.pdb_functions.proofs.OrderLemmas.{all_in_order, all_of_order, any-in_order, all_weaker, all_pairs}
use Rattle.pdb_functions.proofs.IntervalLemmas.{StartsRise, starts_rise, intervals_filled, intervals_rise}
use Rattle.pdb_functions.proofs.IntervalLemmas.{apart_from_starts, claims_lie_in_intervals, intervals_begin}
use Rattle.pdb_functions.proofs.IntervalLemmas.{intervals_end}
use Rattle.pdb_functions.proofs.IntervalByteLemmas.{intervals_differ, apart_from_others, IsReached}
use Rattle.pdb_functions.proofs.IntervalByteLemmas.{intervals_reached, HasFirstByteOf, first_bytes, overlap_shown}

-- a contribution that counts claims a byte
pub claims_filled : (sections : List ImageSectionHeader) (cs : List SectionContribution)
    → AllByRecursion IsFilled (claims sections cs)
claims_filled sections [] = tt
claims_filled sections (c ∷ cs) = by_test (is_counted sections c) refl (claims_filled sections cs) where
  by_size : (is_counted sections c) ≡ true → c.offset.offset < c.offset.offset + c.size
  by_size counted = by_number (cases_lt 0 c.size) where
    by_number : ((nat_lt 0 c.size ≡ true) × (0 < c.size)) ⊎ ((nat_lt 0 c.size ≡ false) × (c.size ≤ 0))
        → c.offset.offset < c.offset.offset + c.size
    by_number (inl some) = let h : 0 < c.size = some.1 in omega arith
    by_number (inr none) = let e = rw none.0 at counted in absurd (cc)

  by_test : (t : Bool) → is_counted sections c ≡ t → AllByRecursion IsFilled (claims sections cs)
      → AllByRecursion IsFilled (map claimed
      (cond t (c ∷ filter (is_counted sections) cs) (filter (is_counted sections) cs)))
  by_test true counted rest = (by_size counted, rest)
  by_test false dropped rest = rest

-- what is merged was read without a refusal, does not overlap, and is the intervals of the claims in order
pub record IsMerged (sections : List ImageSectionHeader) (debug : DebugInformation)
    (table : List ModuleSectionContribution) : Type 0 where
  pub reading : reading_refusal sections debug ≡ None
  pub apart : overlap_after None (intervals_of (ordered_claims sections debug.section_contributions.items)) ≡ None
  pub intervals : table ≡ intervals_of (ordered_claims sections debug.section_contributions.items)

-- an answer that is no refusal comes after none
pub unless_accepted : {A : Type 0} (refusal : Option Error) (answer : Result A Error) (value : A)
    → unless refusal answer ≡ Ok value → (refusal ≡ None) × (answer ≡ Ok value)
unless_accepted None answer value is = (refl, is)
unless_accepted (Some e) answer value is = absurd (cc)

-- two equal answers have one value
same_value : {A : Type 0} (x y : A) → (let answer : Result A Error = Ok x in answer) ≡ Ok y → x ≡ y
same_value x y is = cc

-- merged contributions are merged
pub merged_is_merged : (sections : List ImageSectionHeader) (debug : DebugInformation)
    (table : List ModuleSectionContribution) → merged_contributions sections debug ≡ Ok table
    → IsMerged sections debug table
merged_is_merged sections debug table is =
    let all = intervals_of (ordered_claims sections debug.section_contributions.items) in
    let reading = unless_accepted (reading_refusal sections debug)
    (unless (overlap_after None all) (Ok all)) table is in
    let overlap = unless_accepted (overlap_after None all) (Ok all) table reading.1 in
    record { reading = reading.0; apart = overlap.0; intervals = sym (same_value all table overlap.1) }

-- claims in order start in order
pub ordered_rise : (sections : List ImageSectionHeader) (cs : List SectionContribution)
    → StartsRise (ordered_claims sections cs)
ordered_rise sections cs = starts_rise (ordered_claims sections cs)
    (rises_in_order contributions_rank (claims sections cs))

-- claims in order have bytes
pub ordered_filled : (sections : List ImageSectionHeader) (cs : List SectionContribution)
    → AllByRecursion IsFilled (ordered_claims sections cs)
ordered_filled sections cs = all_in_order contribution_before IsFilled (claims sections cs) (claims_filled sections cs)

-- merged contributions are apart
pub merged_apart : (sections : List ImageSectionHeader) (debug : DebugInformation)
    (table : List ModuleSectionContribution) → merged_contributions sections debug ≡ Ok table → AreApart table
merged_apart sections debug table is =
    let m = merged_is_merged sections debug table is in
    let cs = ordered_claims sections debug.section_contributions.items in
    rw m.intervals (of_intervals (intervals_of cs)
    (intervals_filled cs (ordered_filled sections debug.section_contributions.items))
    (intervals_rise cs (ordered_rise sections debug.section_contributions.items)) m.apart)
  where
    of_intervals : (is : List ModuleSectionContribution) → AllByRecursion IsFilled is → StartsRise is
        → overlap_after None is ≡ None → AreApart is
    of_intervals [] filled up apart = tt
    of_intervals (i ∷ is) filled up apart = apart_from_starts i is filled.0 filled.1 up apart

-- each contribution that counts lies in a merged one
pub merged_hold_claims : (sections : List ImageSectionHeader) (debug : DebugInformation)
    (table : List ModuleSectionContribution) → merged_contributions sections debug ≡ Ok table
    → AllByRecursion (LiesInOneOf table) (claims sections debug.section_contributions.items)
merged_hold_claims sections debug table is =
    let m = merged_is_merged sections debug table is in
    let cs = ordered_claims sections debug.section_contributions.items in
    all_of_order contribution_before (LiesInOneOf table) (claims sections debug.section_contributions.items)
    (rw m.intervals (claims_lie_in_intervals cs (ordered_rise sections debug.section_contributions.items)))

-- each merged contribution begins where one that counts begins
pub merged_begin : (sections : List ImageSectionHeader) (debug : DebugInformation)
    (table : List ModuleSectionContribution) → merged_contributions sections debug ≡ Ok table
    → AllByRecursion (BeginsWithOneOf (claims sections debug.section_contributions.items)) table
merged_begin sections debug table is =
    let m = merged_is_merged sections debug table is in
    let cs = claims sections debug.section_contributions.items in
    all_weaker (BeginsWithOneOf (in_order contribution_before cs)) (BeginsWithOneOf cs)
    (λ i begins. sym (any-in_order contribution_before
    (λ c. is_same_module c i && (c.start_offset == i.start_offset)) cs) ∙ begins) table
    (rw m.intervals (intervals_begin (in_order contribution_before cs)))

-- each merged contribution ends where one that counts ends
pub merged_end : (sections : List ImageSectionHeader) (debug : DebugInformation)
    (table : List ModuleSectionContribution) → merged_contributions sections debug ≡ Ok table
    → AllByRecursion (EndsWithOneOf (claims sections debug.section_contributions.items)) table
merged_end sections debug table is =
    let m = merged_is_merged sections debug table is in
    let cs = claims sections debug.section_contributions.items in
    all_weaker (EndsWithOneOf (in_order contribution_before cs)) (EndsWithOneOf cs)
    (λ i ends. sym (any-in_order contribution_before (λ c. is_same_module c i && (c.end_offset == i.end_offset)) cs)
    ∙ ends) table (rw m.intervals (intervals_end (in_order contribution_before cs)))

-- no byte of a merged contribution belongs to one of another module
pub merged_apart_from_others : (sections : List ImageSectionHeader) (debug : DebugInformation)
    (table : List ModuleSectionContribution) → merged_contributions sections debug ≡ Ok table
    → AllByRecursion (λ interval. AllByRecursion (IsApartFrom interval)
    (claims sections debug.section_contributions.items)) table
merged_apart_from_others sections debug table is =
    let cs = claims sections debug.section_contributions.items in
    all_pairs IsApartFrom table cs
    (all_weaker (LiesInOneOf table) (λ c. AllByRecursion (λ interval. IsApartFrom interval c) table)
    (λ c lies. apart_from_others table c (merged_apart sections debug table is) lies) cs
    (merged_hold_claims sections debug table is))

-- two neighbours of merged contributions are never of one module and section
pub merged_differ : (sections : List ImageSectionHeader) (debug : DebugInformation)
    (table : List ModuleSectionContribution) → merged_contributions sections debug ≡ Ok table → NeighboursDiffer table
merged_differ sections debug table is =
    let m = merged_is_merged sections debug table is in
    rw m.intervals (intervals_differ (ordered_claims sections debug.section_contributions.items))

-- an end past 32 bits refuses, and the first such does
pub ends_refused : (cs : List ModuleSectionContribution) (claim : ModuleSectionContribution)
    → find (λ c. nat_le (2 ^ 32) c.end_offset) cs ≡ Some claim
    → refused_ends cs ≡ Some (SectionContributionEndTooLarge claim.module_index claim.section_index)
ends_refused [] claim is = absurd (cc)
ends_refused (c ∷ cs) claim is = by_test (cases_lt c.end_offset (2 ^ 32)) (λ rest. ends_refused cs claim rest) where
  by_test : ((nat_lt c.end_offset (2 ^ 32) ≡ true) × (c.end_offset < 2 ^ 32)) ⊎
      ((nat_lt c.end_offset (2 ^ 32) ≡ false) × (2 ^ 32 ≤ c.end_offset))
      → (find (λ d. nat_le (2 ^ 32) d.end_offset) cs ≡ Some claim
      → refused_ends cs ≡ Some (SectionContributionEndTooLarge claim.module_index claim.section_index))
      → refused_ends (c ∷ cs) ≡ Some (SectionContributionEndTooLarge claim.module_index claim.section_index)
  by_test (inl fits) others = let h : nat_le (2 ^ 32) c.end_offset ≡ false =
      (let k = fits.1 in grind (arith, nat_tests)) in rw fits.0 (others (rw h at is))
  by_test (inr beyond) others =
      let h : nat_le (2 ^ 32) c.end_offset ≡ true = (let k = beyond.1 in grind (arith, nat_tests)) in
      let e : c ≡ claim = (let found = rw h at is in cc) in rw (beyond.0, e) refl

-- where all ends fit, none refuses
pub ends_accepted : (cs : List ModuleSectionContribution) → find (λ c. nat_le (2 ^ 32) c.end_offset) cs ≡ None
    → refused_ends cs ≡ None
ends_accepted [] is = refl
ends_accepted (c ∷ cs) is = by_test (cases_lt c.end_offset (2 ^ 32)) (λ rest. ends_accepted cs rest) where
  by_test : ((nat_lt c.end_offset (2 ^ 32) ≡ true) × (c.end_offset < 2 ^ 32)) ⊎
      ((nat_lt c.end_offset (2 ^ 32) ≡ false) × (2 ^ 32 ≤ c.end_offset))
      → (find (λ d. nat_le (2 ^ 32) d.end_offset) cs ≡ None → refused_ends cs ≡ None) → refused_ends (c ∷ cs) ≡ None
  by_test (inl fits) others = let h : nat_le (2 ^ 32) c.end_offset ≡ false =
      (let k = fits.1 in grind (arith, nat_tests)) in rw fits.0 (others (rw h at is))
  by_test (inr beyond) others =
      let h : nat_le (2 ^ 32) c.end_offset ≡ true = (let k = beyond.1 in grind (arith, nat_tests)) in let found =
      rw h at is in absurd (cc)

-- the first refusal is of the first end past 32 bits
pub refused_for_end : (sections : List ImageSectionHeader) (debug : DebugInformation)
    (claim : ModuleSectionContribution)
    → find (λ c. nat_le (2 ^ 32) c.end_offset) (claims sections debug.section_contributions.items) ≡ Some claim
    → merged_contributions sections debug ≡ Err (SectionContributionEndTooLarge claim.module_index claim.section_index)
refused_for_end sections debug claim is =
    rw (ends_refused (claims sections debug.section_contributions.items) claim is) refl

-- the second refusal is of the fault after the contributions
pub refused_for_fault : (sections : List ImageSectionHeader) (debug : DebugInformation) (fault : StreamError)
    → find (λ c. nat_le (2 ^ 32) c.end_offset) (claims sections debug.section_contributions.items) ≡ None
    → debug.section_contributions.fault ≡ Some fault
    → merged_contributions sections debug ≡ Err (PdbError (Stream fault))
refused_for_fault sections debug fault is at =
    rw (ends_accepted (claims sections debug.section_contributions.items) is, at) refl

-- an error that comes where nothing refuses before is the refusal of what is left
unless_refused : {A : Type 0} (refusal : Option Error) (value : A) (e : Error) → unless refusal (Ok value) ≡ Err e
    → refusal ≡ Some e
unless_refused None value e is = absurd (cc)
unless_refused (Some f) value e is = cc

-- a byte of a claim in order is one of a claim
shown_of_order : (cs : List ModuleSectionContribution) (e : Error) → IsOverlap (in_order contribution_before cs) e
    → IsOverlap cs e
shown_of_order cs (OverlappingSectionContributions section before module_index) shown =
    let has_byte = λ (k offset : ℕ) (c : ModuleSectionContribution). (c.section_index == section) &&
    (c.module_index == k) && nat_le c.start_offset offset && nat_lt offset c.end_offset in (
      shown.0,
      (
        shown.1.0,
        (
          sym (any-in_order contribution_before (has_byte before shown.1.0) cs) ∙ shown.1.1.0,
          sym
              (any-in_order contribution_before (has_byte module_index shown.1.0) cs) ∙ shown.1.1.1,
        ),
      ),
    )
shown_of_order cs other shown = absurd shown

-- the last refusal is of a byte that two modules claim
pub refused_for_overlap : (sections : List ImageSectionHeader) (debug : DebugInformation) (e : Error)
    → find (λ c. nat_le (2 ^ 32) c.end_offset) (claims sections debug.section_contributions.items) ≡ None
    → debug.section_contributions.fault ≡ None → merged_contributions sections debug ≡ Err e
    → IsOverlap (claims sections debug.section_contributions.items) e
refused_for_overlap sections debug e is no_fault refused =
    let cs = ordered_claims sections debug.section_contributions.items in
    let only : unless (overlap_after None (intervals_of cs)) (Ok (intervals_of cs)) ≡ Err e =
    rw (ends_accepted (claims sections debug.section_contributions.items) is, no_fault) at refused in
    shown_of_order (claims sections debug.section_contributions.items) e
    (of_intervals (intervals_of cs) (first_bytes cs (ordered_filled sections debug.section_contributions.items))
    (intervals_reached cs (ordered_rise sections debug.section_contributions.items)) (intervals_differ cs)
    (unless_refused (overlap_after None (intervals_of cs)) (intervals_of cs) e only))
  where
    of_intervals : (is : List ModuleSectionContribution)
        → AllByRecursion (HasFirstByteOf (ordered_claims sections debug.section_contributions.items)) is
        → IsReached (ordered_claims sections debug.section_contributions.items) is → NeighboursDiffer is
        → overlap_after None is ≡ Some e → IsOverlap (ordered_claims sections debug.section_contributions.items) e
    of_intervals [] first reached differ refused = absurd (cc)
    of_intervals (i ∷ is) first reached differ refused =
        overlap_shown (ordered_claims sections debug.section_contributions.items) i is first.1 reached differ e refused
