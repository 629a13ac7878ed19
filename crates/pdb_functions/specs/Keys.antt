-- Section offsets as single numbers, the keys of tables of segments.
use Rattle.std.specs.Prelude.{◌≡◌, ℕ, ◌+◌, ◌*◌, ◌^◌, ◌<◌, Bool}
use Rattle.pdb_records.specs.declared.addresses.PdbInternalSectionOffset.{PdbInternalSectionOffset}
use Rattle.pdb_tables.specs.RangeSet.{is_within}

-- the number of a section offset: each section has room for 2^34 offsets
abbrev pub key : PdbInternalSectionOffset → ℕ
key section_offset = section_offset.section * 2 ^ 34 + section_offset.offset

-- the keys from lo up to the one before hi are those of the section offsets that pass the test
abbrev pub HasKeys : ℕ → ℕ → (PdbInternalSectionOffset → Bool) → Type 0
HasKeys lo hi over =
    (section_offset : PdbInternalSectionOffset) → section_offset.offset < 2 ^ 32
    → is_within lo hi (key section_offset) ≡ over section_offset
