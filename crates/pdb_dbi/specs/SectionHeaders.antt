-- Section headers, with the layout of those in a program (IMAGE_SECTION_HEADER), and the address map.
use Rattle.std.specs.Prelude.{ℕ, ◌==◌, bit_and, not, List, drop, map, Result}
use Rattle.pdb_records.specs.declared.error.StreamError.{StreamError}
use Rattle.pdb_records.specs.declared.addresses.AddressRange.{AddressRange}
use Rattle.pdb_records.specs.declared.addresses.ImageSectionHeader.{ImageSectionHeader}
use Rattle.pdb_msf.specs.NumberLists.{number}
use Rattle.pdb_msf.specs.ItemLists.{entry_list}
use Rattle.pdb_msf.specs.Readings.{whole}
use Rattle.pdb_dbi.specs.PublishedNumbers.{image_scn_mem_execute}

-- a section header: VirtualSize at 8, VirtualAddress at 12, and the execute flag in Characteristics, at 36
abbrev pub section_header : List ℕ → ImageSectionHeader
section_header bytes = record {
  virtual_address = number (drop 12 bytes);
  virtual_size = number (drop 8 bytes);
  execute = not (bit_and (number (drop 36 bytes)) image_scn_mem_execute == 0);
}

-- the section headers of a stream, 40 bytes each; an incomplete header makes the whole stream an error
unfoldable pub section_headers : List ℕ → Result (List ImageSectionHeader) StreamError
section_headers stream = whole (entry_list section_header 40 stream)

-- the address range of a section
abbrev pub address_range : ImageSectionHeader → AddressRange
address_range section = record { virtual_address = section.virtual_address; virtual_size = section.virtual_size }

-- the address ranges at which the sections are loaded, in their order
abbrev pub loaded_at : List ImageSectionHeader → List AddressRange
loaded_at sections = map address_range sections
