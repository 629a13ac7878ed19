-- Sections that hold code.
use Rattle.std.specs.Prelude.{ℕ, ◌+◌, Bool, false, List, [], ◌∷◌, ◌&&◌, nat_le, if◌then◌else◌}
use Rattle.std.specs.Option.{option_map_or}
use Rattle.pdb_records.specs.Addresses.{numbered_section}
use Rattle.pdb_records.specs.declared.addresses.ImageSectionHeader.{ImageSectionHeader}
use Rattle.pdb_records.specs.declared.addresses.PdbInternalSectionOffset.{PdbInternalSectionOffset}

-- whether there is a section with this number, and it holds code
abbrev pub is_executable : List ImageSectionHeader → ℕ → Bool
is_executable sections number = option_map_or (λ section. section.execute) (numbered_section number sections) false

-- the ends of the sections that hold code; sections are numbered from `number` on, at most to 65535
abbrev pub section_ends_from : ℕ → List ImageSectionHeader → List PdbInternalSectionOffset
section_ends_from number [] = []
section_ends_from number (section ∷ sections) =
    if section.execute && nat_le number 65535
    then record { section = number; offset = section.virtual_size } ∷ section_ends_from (number + 1) sections
    else section_ends_from (number + 1) sections

-- the ends of the sections that hold code
abbrev pub section_ends : List ImageSectionHeader → List PdbInternalSectionOffset
section_ends sections = section_ends_from 1 sections
