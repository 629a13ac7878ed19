-- The first section that holds an address.
use Rattle.std.proofs.Common.{◌≡◌, ◌∙◌, ℕ, suc, ◌+◌, Bool, true, false, cond, List, [], ◌∷◌, length, reverse, Option}
use Rattle.std.proofs.Common.{Some, None, refl, ap}
use Rattle.std.specs.Prelude.{option_and_then}
use Rattle.std.proofs.lemmas.List.{length-reverse, reverse-reverse}
use Rattle.pdb_records.specs.Addresses.{holds, offset_from}
use Rattle.pdb_records.specs.declared.addresses.AddressRange.{AddressRange}
use Rattle.pdb_tables.specs.Segments.{value_at, painted_in_turn}
use Rattle.pdb_tables.proofs.TurnLemmas.{painted_in_turn-last}
use Rattle.pdb_functions.specs.SectionTables.{section_offset_in, section_segments}
use Rattle.pdb_functions.specs.declared.section_table.SectionStart.{SectionStart}

-- there are as many segments as sections
length-section_segments : (index : ℕ) (ranges : List AddressRange)
    → length (section_segments index ranges) ≡ length ranges
length-section_segments index [] = refl
length-section_segments index (range ∷ ranges) = ap suc (length-section_segments (index + 1) ranges)

-- and as many where they are turned round
pub count : (ranges : List AddressRange) → length (reverse (section_segments 0 ranges)) ≡ length ranges
count ranges = length-reverse (section_segments 0 ranges) ∙ length-section_segments 0 ranges

-- the first segment over an address is that of the first section that holds it
first_section : (index : ℕ) (ranges : List AddressRange) (x : ℕ)
    → option_and_then (section_offset_in x) (value_at (section_segments index ranges) x) ≡ offset_from
    (index + 1) ranges x
first_section index [] x = refl
first_section index (range ∷ ranges) x = by_test (holds x range) (first_section (index + 1) ranges x) where
  here : SectionStart
  here = record { index = index; start = range.virtual_address }

  later : Option SectionStart
  later = value_at (section_segments (index + 1) ranges) x

  by_test : (t : Bool) → option_and_then (section_offset_in x) later ≡ offset_from (index + 1 + 1) ranges x
      → option_and_then (section_offset_in x) (cond t (Some here) later) ≡ cond t (section_offset_in x here)
      (offset_from (index + 1 + 1) ranges x)
  by_test true rest = refl
  by_test false rest = rest

-- so it is where the segments are painted from the last to the first
pub section_of_painted : (ranges : List AddressRange) (x : ℕ)
    → option_and_then (section_offset_in x) (painted_in_turn (reverse (section_segments 0 ranges)) None x)
    ≡ offset_from 1 ranges x
section_of_painted ranges x =
    ap (option_and_then (section_offset_in x))
    (painted_in_turn-last (reverse (section_segments 0 ranges)) x ∙ ap (λ ss. value_at ss x)
    (reverse-reverse (section_segments 0 ranges)))
    ∙ first_section 0 ranges x
