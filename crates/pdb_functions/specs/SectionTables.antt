-- Tables from addresses to sections.
use Rattle.std.specs.Prelude.{ℕ, ◌+◌, ◌-◌, List, [], ◌∷◌, Option}
use Rattle.pdb_records.specs.Addresses.{numbered}
use Rattle.pdb_records.specs.declared.addresses.PdbInternalSectionOffset.{PdbInternalSectionOffset}
use Rattle.pdb_records.specs.declared.addresses.AddressRange.{AddressRange}
use Rattle.pdb_tables.specs.declared.segment.Segment.{Segment}
use Rattle.pdb_functions.specs.declared.section_table.SectionStart.{SectionStart}

-- the section offset of an address in a section; the section's number is its position in the list plus 1
abbrev pub section_offset_in : ℕ → SectionStart → Option PdbInternalSectionOffset
section_offset_in address section = numbered (section.index + 1) (address - section.start)

-- the address ranges of sections; `index` is the position of the first in the list
abbrev pub section_segments : ℕ → List AddressRange → List (Segment SectionStart)
section_segments index [] = []
section_segments index (range ∷ ranges) =
    record {
      start = range.virtual_address;
      end = range.virtual_address + range.virtual_size;
      value = record { index = index; start = range.virtual_address };
    }
    ∷ section_segments (index + 1) ranges
