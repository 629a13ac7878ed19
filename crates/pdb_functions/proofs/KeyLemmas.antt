-- Keys of section offsets.
use Rattle.std.proofs.Common.{◌≡◌, ◌∙◌, ℕ, ◌+◌, ◌*◌, ◌^◌, ◌≤◌, Bool, inl, inr, arith}
use Rattle.std.specs.Prelude.{◌==◌, ◌&&◌, nat_le, nat_lt}
use Rattle.std.proofs.lemmas.Bool.{cases_lt}
use Rattle.std.proofs.lemmas.Bool.Decides.{nat_tests}
use Rattle.pdb_records.specs.declared.addresses.PdbInternalSectionOffset.{PdbInternalSectionOffset}
use Rattle.pdb_tables.proofs.HasLemmas.{within_below, within_above}
use Rattle.pdb_functions.specs.Keys.{key, HasKeys}

-- the section offsets of a section from a start up to an end
abbrev pub section_offsets : ℕ → ℕ → ℕ → PdbInternalSectionOffset → Bool
section_offsets section start end section_offset = (section == section_offset.section)
    && nat_le start section_offset.offset && nat_lt section_offset.offset end

-- the keys from that of a start up to that of an end are those of the section offsets from the one up to the other
pub section_offsets_have_keys : (lo hi section start end : ℕ) → lo ≡ section * 2 ^ 34 + start
    → hi ≡ section * 2 ^ 34 + end → end ≤ 2 ^ 34
    → HasKeys lo hi (section_offsets section start end)
section_offsets_have_keys lo hi section start end low high room section_offset fits =
    elim (cases_lt section section_offset.section) [
      | inl below ↦ within_above lo hi (key section_offset) (omega arith) ∙ grind (arith, nat_tests)
      | inr from ↦ elim (cases_lt section_offset.section section) [
        | inl above ↦ within_below lo hi (key section_offset) (omega arith) ∙ grind (arith, nat_tests)
        | inr to ↦ let same : section ≡ section_offset.section = omega arith in grind (arith, nat_tests)
      ]
    ]
