-- The order of section offsets, and what stands by it.
use Rattle.std.proofs.Common.{◌≡◌, ℕ, ◌<◌, Bool, true, List, [], ◌∷◌, refl, arith}
use Rattle.std.specs.Prelude.{◌==◌, ◌&&◌, ◌||◌, nat_lt, find}
use Rattle.std.specs.List.{AllByRecursion}
use Rattle.std.specs.Ordering.{nat_cmp, is_eq, MatchOrdering}
use Rattle.std.specs.Cmp.{IsTotalOrder}
use Rattle.std.specs.declared.cmp.Ordering.{Ordering}
use Rattle.std.specs.declared.cmp.Ordering.TheVariants.{Less, Equal, Greater}
use Rattle.std.proofs.lemmas.Bool.Decides.{nat_tests}
use Rattle.std.proofs.lemmas.Cmp.{ranked, then_total, on_total, nat_cmp_total}
use Rattle.pdb_records.specs.Addresses.{is_same_section_offset}
use Rattle.pdb_records.specs.declared.addresses.PdbInternalSectionOffset.{PdbInternalSectionOffset}
use Rattle.pdb_tables.proofs.KeyedLemmas.{first_of_key_stays}
use Rattle.pdb_tables.proofs.LastLemmas.{Climbs}
use Rattle.pdb_functions.specs.Starts.{section_offset_cmp, is_before, first_of_each_start, StartsAscend}

-- section offsets have one order
pub section_offset_cmp_total : IsTotalOrder section_offset_cmp
section_offset_cmp_total = then_total (on_total (λ p. p.section) nat_cmp_total) (on_total (λ p. p.offset) nat_cmp_total)

-- a section offset comes before another by numbers
pub is_before_test : (a b : PdbInternalSectionOffset)
    → is_before a b ≡ (nat_lt a.section b.section || ((a.section == b.section) && nat_lt a.offset b.offset))
is_before_test a b =
    by_order (nat_cmp a.section b.section) refl (nat_cmp a.offset b.offset) refl
    (ranked a.section b.section (nat_cmp a.section b.section) refl)
    (ranked a.offset b.offset (nat_cmp a.offset b.offset) refl)
  where
    by_order : (o : Ordering) → nat_cmp a.section b.section ≡ o → (u : Ordering) → nat_cmp a.offset b.offset ≡ u
        → MatchOrdering (nat_cmp a.section b.section) (a.section < b.section) (a.section ≡ b.section)
        (b.section < a.section)
        → MatchOrdering (nat_cmp a.offset b.offset) (a.offset < b.offset) (a.offset ≡ b.offset) (b.offset < a.offset)
        → is_before a b ≡ (nat_lt a.section b.section || ((a.section == b.section) && nat_lt a.offset b.offset))
    by_order Less is u was fact rest = let h : a.section < b.section = rw is at fact in rw is (grind (arith, nat_tests))
    by_order Greater is u was fact rest = let h : b.section < a.section = rw is at fact in
        rw is (grind (arith, nat_tests))
    by_order Equal is Less was fact rest =
        let h : a.section ≡ b.section = rw is at fact in let k : a.offset < b.offset = rw was at rest in
        rw (is, was) (grind (arith, nat_tests))
    by_order Equal is Equal was fact rest =
        let h : a.section ≡ b.section = rw is at fact in let k : a.offset ≡ b.offset = rw was at rest in
        rw (is, was) (grind (arith, nat_tests))
    by_order Equal is Greater was fact rest =
        let h : a.section ≡ b.section = rw is at fact in let k : b.offset < a.offset = rw was at rest in
        rw (is, was) (grind (arith, nat_tests))

-- two section offsets that are equal by their order are one
same_test : (a b : PdbInternalSectionOffset) → is_same_section_offset a b ≡ is_eq (section_offset_cmp a b)
same_test a b =
    by_order (nat_cmp a.section b.section) refl (nat_cmp a.offset b.offset) refl
    (ranked a.section b.section (nat_cmp a.section b.section) refl)
    (ranked a.offset b.offset (nat_cmp a.offset b.offset) refl)
  where
    by_order : (o : Ordering) → nat_cmp a.section b.section ≡ o → (u : Ordering) → nat_cmp a.offset b.offset ≡ u
        → MatchOrdering (nat_cmp a.section b.section) (a.section < b.section) (a.section ≡ b.section)
        (b.section < a.section)
        → MatchOrdering (nat_cmp a.offset b.offset) (a.offset < b.offset) (a.offset ≡ b.offset) (b.offset < a.offset)
        → is_same_section_offset a b ≡ is_eq (section_offset_cmp a b)
    by_order Less is u was fact rest = let h : a.section < b.section = rw is at fact in rw is (grind (arith, nat_tests))
    by_order Greater is u was fact rest = let h : b.section < a.section = rw is at fact in
        rw is (grind (arith, nat_tests))
    by_order Equal is Less was fact rest =
        let k : a.offset < b.offset = rw was at rest in rw (is, was) (grind (arith, nat_tests))
    by_order Equal is Equal was fact rest =
        let h : a.section ≡ b.section = rw is at fact in let k : a.offset ≡ b.offset = rw was at rest in
        rw (is, was) (grind (arith, nat_tests))
    by_order Equal is Greater was fact rest =
        let k : b.offset < a.offset = rw was at rest in rw (is, was) (grind (arith, nat_tests))

-- of each start the first one stays
pub first_at_of_each_start : {T : Type 0} (start : T → PdbInternalSectionOffset)
    (section_offset : PdbInternalSectionOffset) (xs : List T)
    → find (λ x. is_same_section_offset (start x) section_offset) (first_of_each_start start xs)
    ≡ find (λ x. is_same_section_offset (start x) section_offset) xs
first_at_of_each_start start section_offset xs =
    first_of_key_stays section_offset_cmp_total start section_offset
    (λ x. is_same_section_offset (start x) section_offset) (λ x. same_test (start x) section_offset) xs

-- of what ascends, those that lie over section offsets of one section climb
pub climbs_in_section : {T : Type 0} (over : T → Bool) (start : T → PdbInternalSectionOffset) (section : ℕ)
    → ((x : T) → over x ≡ true → (start x).section ≡ section) → (xs : List T) → StartsAscend start xs
    → Climbs over (λ x. (start x).offset) xs
climbs_in_section over start section within [] up = tt
climbs_in_section {T = T} over start section within (x ∷ xs) up =
    (all_above xs up.0, climbs_in_section over start section within xs up.1) where
      above : (y : T) → is_before (start x) (start y) ≡ true → over x ≡ true → over y ≡ true
          → (start x).offset < (start y).offset
      above y before at_x at_y =
          let one : (start x).section ≡ section = within x at_x in
          let other : (start y).section ≡ section = within y at_y in
          let h = rw (is_before_test (start x) (start y)) at before in grind (arith, nat_tests)

      all_above : (ys : List T) → AllByRecursion (λ y. is_before (start x) (start y) ≡ true) ys
          → AllByRecursion (λ y. over x ≡ true → over y ≡ true → (start x).offset < (start y).offset) ys
      all_above [] all = tt
      all_above (y ∷ ys) all = (above y all.0, all_above ys all.1)
