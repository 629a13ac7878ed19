-- Two addresses of which no change point of the address map lies between: they lie in no section, or in one.
use Rattle.std.proofs.Common.{◌≡◌, ℕ, suc, ◌+◌, ◌-◌, ◌^◌, ◌<◌, ◌≤◌, Bool, true, false, cond, List, [], ◌∷◌, ◌++◌}
use Rattle.std.proofs.Common.{refl, ap, ◌∙◌, arith, sym}
use Rattle.std.specs.Prelude.{nat_le, nat_lt, Option, Some, None, slice_get}
use Rattle.std.specs.List.{AllByRecursion}
use Rattle.std.proofs.lemmas.Bool.Decides.{nat_tests}
use Rattle.std.proofs.lemmas.Bool.{and_parts, leb-true, lt-ltb}
use Rattle.pdb_records.specs.Addresses.{holds, numbered, numbered_section, offset_from, rva_of}
use Rattle.pdb_records.specs.declared.addresses.AddressRange.{AddressRange}
use Rattle.pdb_records.specs.declared.addresses.PdbInternalSectionOffset.{PdbInternalSectionOffset}
use Rattle.pdb_change_points.specs.Points.{point_of, map_points, IsOutside}
use Rattle.pdb_change_points.proofs.ListLemmas.{all_parts}
use Rattle.pdb_change_points.proofs.SectionLemmas.{outside}

-- no change point of a range lies between two addresses
abbrev IsRangeOutside : ℕ → ℕ → AddressRange → Type 0
IsRangeOutside x y range =
    IsOutside x y range.virtual_address × IsOutside x y (range.virtual_address + range.virtual_size)

-- the range of a section holds both or neither
holds_same : (x y : ℕ) (range : AddressRange) → x ≤ y → IsRangeOutside x y range → holds x range ≡ holds y range
holds_same x y range up all =
    let start = all.0 in let end = all.1 in
    let le : nat_le range.virtual_address x ≡ nat_le range.virtual_address y = grind (arith, nat_tests) in
    let lt : nat_lt x (range.virtual_address + range.virtual_size)
    ≡ nat_lt y (range.virtual_address + range.virtual_size) = grind (arith, nat_tests) in
    cc

-- what is computed of a section offset is the same of both, where it is the same in one section
module _ {A : Type 0} (sections : List AddressRange) (x y : ℕ) (up : x ≤ y)
    (of_x of_y : Option PdbInternalSectionOffset → A) (none : of_x None ≡ of_y None)
    (same : (n : ℕ) (range : AddressRange) → numbered_section n sections ≡ Some range → range.virtual_address ≤ x
    → of_x (Some (record { section = n; offset = x - range.virtual_address }))
    ≡ of_y (Some (record { section = n; offset = y - range.virtual_address }))) where
  same_from : (number : ℕ) (ranges : List AddressRange)
      → ((k : ℕ) → slice_get ranges k ≡ numbered_section (number + k) sections)
      → AllByRecursion (IsRangeOutside x y) ranges
      → of_x (offset_from number ranges x) ≡ of_y (offset_from number ranges y)
  same_from number [] listed all = none
  same_from number (range ∷ ranges) listed all =
      by_test (holds x range) (holds y range) refl (holds_same x y range up all.0)
      (same_from (number + 1) ranges
      (λ k. let next : number + suc k ≡ (number + 1) + k = omega arith in
      listed (suc k) ∙ ap (λ (n : ℕ). numbered_section n sections) next) all.1)
    where
      by_number : range.virtual_address ≤ x → (t : Bool)
          → of_x (cond t (Some (record { section = number; offset = x - range.virtual_address })) None)
          ≡ of_y (cond t (Some (record { section = number; offset = y - range.virtual_address })) None)
      by_number from true =
          let here : number + 0 ≡ number = omega arith in
          same number range (ap (λ (n : ℕ). numbered_section n sections) (sym here) ∙ sym (listed 0)) from
      by_number from false = none

      by_test : (s t : Bool) → holds x range ≡ s → s ≡ t
          → of_x (offset_from (number + 1) ranges x) ≡ of_y (offset_from (number + 1) ranges y)
          → of_x (cond s (numbered number (x - range.virtual_address)) (offset_from (number + 1) ranges x))
          ≡ of_y (cond t (numbered number (y - range.virtual_address)) (offset_from (number + 1) ranges y))
      by_test true true is alike behind =
          by_number (leb-true range.virtual_address x
          (and_parts (nat_le range.virtual_address x) (nat_lt x (range.virtual_address + range.virtual_size)) is).0)
          (nat_le number 65535)
      by_test true false is alike behind = cc
      by_test false true is alike behind = cc
      by_test false false is alike behind = behind

-- sections are numbered from 1
numbered_from_1 : (sections : List AddressRange) (k : ℕ) → slice_get sections k ≡ numbered_section (1 + k) sections
numbered_from_1 sections k =
    let positive : 0 < 1 + k = omega arith in
    let back : (1 + k) - 1 ≡ k = omega arith in
    rw (lt-ltb 0 (1 + k) positive, back) refl

-- the change points of the address map lie outside of two addresses, so those of each range do
ranges_outside : (x y : ℕ) → y < 2 ^ 32 → (ranges : List AddressRange)
    → AllByRecursion (IsOutside x y) (map_points ranges) → AllByRecursion (IsRangeOutside x y) ranges
ranges_outside x y fits [] all = tt
ranges_outside x y fits (range ∷ ranges) all =
    let start = range.virtual_address in
    let end = range.virtual_address + range.virtual_size in
    let parts = all_parts (IsOutside x y) (point_of (rva_of start) ++ point_of (rva_of end)) (map_points ranges) all in
    let own = all_parts (IsOutside x y) (point_of (rva_of start)) (point_of (rva_of end)) parts.0 in
    ((outside x y start fits own.0, outside x y end fits own.1), ranges_outside x y fits ranges parts.1)

-- so it is of two addresses of which no change point of the address map lies between
pub same_by_section : {A : Type 0} (sections : List AddressRange) (x y : ℕ) → x ≤ y → y < 2 ^ 32
    → AllByRecursion (IsOutside x y) (map_points sections)
    → (of_x of_y : Option PdbInternalSectionOffset → A) → of_x None ≡ of_y None
    → ((n : ℕ) (range : AddressRange) → numbered_section n sections ≡ Some range → range.virtual_address ≤ x
    → of_x (Some (record { section = n; offset = x - range.virtual_address }))
    ≡ of_y (Some (record { section = n; offset = y - range.virtual_address })))
    → of_x (offset_from 1 sections x) ≡ of_y (offset_from 1 sections y)
same_by_section sections x y up fits all of_x of_y none same =
    same_from sections x y up of_x of_y none same 1 sections (numbered_from_1 sections)
    (ranges_outside x y fits sections all)
