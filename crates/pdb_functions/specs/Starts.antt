-- Lists sorted by section offset.
use Rattle.std.specs.Prelude.{Bool, List}
use Rattle.std.specs.Ordering.{nat_cmp, ordering_then, is_lt}
use Rattle.std.specs.declared.cmp.Ordering.{Ordering}
use Rattle.pdb_records.specs.declared.addresses.PdbInternalSectionOffset.{PdbInternalSectionOffset}
use Rattle.pdb_tables.specs.Keyed.{first_of_each_key, KeysAscend}

-- the order of section offsets: by section, and then by offset
abbrev pub section_offset_cmp : PdbInternalSectionOffset → PdbInternalSectionOffset → Ordering
section_offset_cmp a b = ordering_then (nat_cmp a.section b.section) (nat_cmp a.offset b.offset)

-- whether a section offset comes before another
abbrev pub is_before : PdbInternalSectionOffset → PdbInternalSectionOffset → Bool
is_before a b = is_lt (section_offset_cmp a b)

-- the elements sorted by section and start, with the first of each start in reading order
abbrev pub first_of_each_start : {T : Type 0} → (T → PdbInternalSectionOffset) → List T → List T
first_of_each_start start xs = first_of_each_key section_offset_cmp start xs

-- the starts ascend, without duplicates
abbrev pub StartsAscend : {T : Type 0} → (T → PdbInternalSectionOffset) → List T → Type 0
StartsAscend start xs = KeysAscend section_offset_cmp start xs
