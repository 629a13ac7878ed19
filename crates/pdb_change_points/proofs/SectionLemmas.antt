-- Tests of two addresses in one section, of which no change point lies between.
use Rattle.std.proofs.Common.{◌≡◌, ℕ, ◌+◌, ◌-◌, ◌^◌, ◌<◌, ◌≤◌, Bool, true, false, cond, List}
use Rattle.std.proofs.Common.{refl, ap, inl, inr, arith, subst}
use Rattle.std.specs.Prelude.{◌&&◌, ◌==◌, nat_le, nat_lt, Option, Some, None, option_and_then}
use Rattle.std.specs.List.{AllByRecursion}
use Rattle.std.proofs.lemmas.Bool.Decides.{nat_tests}
use Rattle.std.proofs.lemmas.Bool.{cases_eq, ne_eqb, ltb-false}
use Rattle.pdb_records.specs.Addresses.{rva_of, numbered_section}
use Rattle.pdb_records.specs.declared.addresses.AddressRange.{AddressRange}
use Rattle.pdb_change_points.specs.Points.{point_of, point_at, IsOutside}

-- a number whose address is no change point between two addresses lies outside of them, also where it has no address
pub outside : (x y n : ℕ) → y < 2 ^ 32 → AllByRecursion (IsOutside x y) (point_of (rva_of n)) → IsOutside x y n
outside x y n fits = by_test (nat_lt n (2 ^ 32)) refl where
  by_test : (t : Bool) → nat_lt n (2 ^ 32) ≡ t
      → AllByRecursion (IsOutside x y) (point_of (cond t (Some (record { 0 = n })) None)) → IsOutside x y n
  by_test true is all = all.0
  by_test false is all = λ above. let past : 2 ^ 32 ≤ n = ltb-false n (2 ^ 32) is in omega arith

-- a test of a section's number comes first, so what follows counts in that section alone
pub in_section : (m n : ℕ) (s t : Bool) → (m ≡ n → s ≡ t) → ((m == n) && s) ≡ ((m == n) && t)
in_section m n s t same = elim (cases_eq m n) [
  | inl e ↦ ap (λ (u : Bool). (m == n) && u) (same e)
  | inr other ↦ rw (ne_eqb m n other) refl
]

-- two addresses in the range of a section
module _ (sections : List AddressRange) (n : ℕ) (range : AddressRange)
    (is : numbered_section n sections ≡ Some range) (x y : ℕ) (from : range.virtual_address ≤ x) (up : x ≤ y)
    (fits : y < 2 ^ 32) where
  -- an offset in the section, whose address is no change point between them
  outside_at : (o : ℕ) → AllByRecursion (IsOutside x y) (point_at sections n o)
      → IsOutside x y (range.virtual_address + o)
  outside_at o all =
      outside x y (range.virtual_address + o) fits
      (subst (λ (r : Option AddressRange). AllByRecursion (IsOutside x y)
      (point_of (option_and_then (λ s. rva_of (s.virtual_address + o)) r))) is all)

  -- it is at or below both or neither
  pub le_same : (o : ℕ) → AllByRecursion (IsOutside x y) (point_at sections n o)
      → nat_le o (x - range.virtual_address) ≡ nat_le o (y - range.virtual_address)
  le_same o all = let h = outside_at o all in grind (arith, nat_tests)

  -- it is above both or neither
  pub lt_same : (o : ℕ) → AllByRecursion (IsOutside x y) (point_at sections n o)
      → nat_lt (x - range.virtual_address) o ≡ nat_lt (y - range.virtual_address) o
  lt_same o all = let h = outside_at o all in grind (arith, nat_tests)
