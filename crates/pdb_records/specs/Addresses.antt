-- Addresses and section offsets, and their conversion.
use Rattle.std.specs.Prelude.{ℕ, ◌+◌, ◌-◌, ◌^◌, ◌&&◌, ◌==◌, Bool, List, [], ◌∷◌, Option, Some}
use Rattle.std.specs.Prelude.{None, nat_le, nat_lt, option_and_then, slice_get, if◌then◌else◌}
use Rattle.pdb_records.specs.declared.addresses.Rva.{Rva}
use Rattle.pdb_records.specs.declared.addresses.AddressRange.{AddressRange}
use Rattle.pdb_records.specs.declared.addresses.PdbInternalSectionOffset.{PdbInternalSectionOffset}

-- whether two section offsets are equal
abbrev pub is_same_section_offset : PdbInternalSectionOffset → PdbInternalSectionOffset → Bool
is_same_section_offset a b = (a.section == b.section) && (a.offset == b.offset)

-- whether a section contains an address: it starts at or below the address and ends above it
abbrev pub holds : ℕ → AddressRange → Bool
holds address range =
    nat_le range.virtual_address address && nat_lt address (range.virtual_address + range.virtual_size)

-- the section offset in the section with this number, if the number is at most 65535
abbrev pub numbered : ℕ → ℕ → Option PdbInternalSectionOffset
numbered number offset = if nat_le number 65535 then Some (record { section = number; offset = offset }) else None

-- the section offset of an address, in the first of these sections that contains it; they are numbered from `number` on
abbrev pub offset_from : ℕ → List AddressRange → ℕ → Option PdbInternalSectionOffset
offset_from number [] address = None
offset_from number (range ∷ ranges) address =
    if holds address range then numbered number (address - range.virtual_address)
    else offset_from (number + 1) ranges address

-- the section offset of an address: sections are numbered from 1
abbrev pub internal_offset : List AddressRange → Rva → Option PdbInternalSectionOffset
internal_offset sections address = offset_from 1 sections address.0

-- this number as an address, if it fits in 32 bits
abbrev pub rva_of : ℕ → Option Rva
rva_of address = if nat_lt address (2 ^ 32) then Some (record { 0 = address }) else None

-- the section of this number, counted from 1
abbrev pub numbered_section : {S : Type 0} → ℕ → List S → Option S
numbered_section number sections = if nat_lt 0 number then slice_get sections (number - 1) else None

-- the address of a section offset: the start of its section, and the offset
abbrev pub rva : List AddressRange → PdbInternalSectionOffset → Option Rva
rva sections section_offset =
    option_and_then (λ range. rva_of (range.virtual_address + section_offset.offset))
    (numbered_section section_offset.section sections)
