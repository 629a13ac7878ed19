-- Which module owns the code at an address, by section contributions.
use Rattle.std.specs.Prelude.{ℕ, Bool, not, false, List, [], Option, None, Result, Ok, Err, find, option_map}
use Rattle.std.specs.Prelude.{option_and_then, unwrap_or}
use Rattle.std.specs.Option.{option_map_or}
use Rattle.std.specs.Result.{result_unwrap_or}
use Rattle.pdb_records.specs.Addresses.{internal_offset}
use Rattle.pdb_records.specs.Records.{Records}
use Rattle.pdb_records.specs.declared.addresses.AddressRange.{AddressRange}
use Rattle.pdb_records.specs.declared.addresses.ImageSectionHeader.{ImageSectionHeader}
use Rattle.pdb_records.specs.declared.addresses.PdbInternalSectionOffset.{PdbInternalSectionOffset}
use Rattle.pdb_records.specs.declared.debug_information.DebugInformation.{DebugInformation}
use Rattle.pdb_records.specs.declared.error.StreamError.{StreamError}
use Rattle.pdb_functions.specs.declared.merged_contributions.ModuleSectionContribution.{ModuleSectionContribution}
use Rattle.pdb_functions.specs.MergedContributions.{merged_contributions}
use Rattle.pdb_functions.specs.Spans.{contribution_covers}
use Rattle.pdb_known.specs.Known.{Known, is_read}

-- where sections are loaded, and the merged contributions
pub record Owners : Type 0 where
  pub address_map : List AddressRange
  pub contributions : List ModuleSectionContribution

-- the section headers; none if the records have none or they can't be read
abbrev pub headers_of : Records → List ImageSectionHeader
headers_of records = unwrap_or (result_unwrap_or records.sections None) []

-- where sections are loaded; empty if the records have no address map
abbrev pub address_map_of : Records → List AddressRange
address_map_of records = result_unwrap_or records.address_map []

-- the merged contributions of debug information; none if it can't be read or merging is refused
abbrev pub merged_in : List ImageSectionHeader → Result DebugInformation StreamError → List ModuleSectionContribution
merged_in headers (Ok debug) = result_unwrap_or (merged_contributions headers debug) []
merged_in headers (Err fault) = []

-- the merged contributions of records
abbrev pub contributions_in : Records → List ModuleSectionContribution
contributions_in records = merged_in (headers_of records) records.debug_information

-- the code owners that records list
abbrev pub owners_of : Records → Owners
owners_of records = record { address_map = address_map_of records; contributions = contributions_in records }

-- the module whose merged contribution contains an address
abbrev pub owner_at : Owners → ℕ → Option ℕ
owner_at owners address =
    let over = λ (section_offset : PdbInternalSectionOffset).
    find (contribution_covers section_offset) owners.contributions in
    option_map (λ c. c.module_index)
    (option_and_then over (internal_offset owners.address_map (record { 0 = address })))

-- whether the module that owns the code at an address isn't read yet
abbrev pub lacks_owner : Known → Owners → ℕ → Bool
lacks_owner known owners address =
    option_map_or (λ module_index. not (is_read known module_index)) (owner_at owners address) false
