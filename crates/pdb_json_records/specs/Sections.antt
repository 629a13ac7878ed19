-- Sections and their addresses.
use Rattle.std.specs.Prelude.{ℕ, List, Result, Ok, codes}
use Rattle.serde_json.specs.Data.{Data}
use Rattle.pdb_records.specs.declared.addresses.ImageSectionHeader.{ImageSectionHeader}
use Rattle.pdb_records.specs.declared.addresses.AddressRange.{AddressRange}
use Rattle.pdb_records.specs.declared.addresses.PdbInternalSectionOffset.{PdbInternalSectionOffset}
use Rattle.pdb_json_values.specs.RecordFault.{Fault, ◌>>=◌}
use Rattle.pdb_json_values.specs.Values.{object_of, boolean_of}
use Rattle.pdb_json_values.specs.JsonNumbers.{u16_of, u32_of}
use Rattle.pdb_json_records.specs.Members.{member_of}

-- a section: where it starts, its size, and whether its bytes are code
unfoldable pub section_of : Data → Result ImageSectionHeader Fault
section_of d = do
  section ← object_of d
  address ← member_of (codes "virtual_address") u32_of section
  size ← member_of (codes "virtual_size") u32_of section
  execute ← member_of (codes "execute") boolean_of section
  Ok (record { virtual_address = address; virtual_size = size; execute = execute })

-- the addresses of a section
unfoldable pub range_of : Data → Result AddressRange Fault
range_of d = do
  range ← object_of d
  address ← member_of (codes "virtual_address") u32_of range
  size ← member_of (codes "virtual_size") u32_of range
  Ok (record { virtual_address = address; virtual_size = size })

-- a section offset, whose section and offset are members of an object with these names
unfoldable pub section_offset_of : (section offset : List ℕ) → Data → Result PdbInternalSectionOffset Fault
section_offset_of section offset d = do
  number ← member_of section u16_of d
  bytes ← member_of offset u32_of d
  Ok (record { section = number; offset = bytes })
