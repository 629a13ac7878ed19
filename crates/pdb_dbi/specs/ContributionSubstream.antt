-- Section contributions: which bytes of the sections belong to which module.
use Rattle.std.specs.Prelude.{ℕ, ◌==◌, nat_lt, List, drop, length, Option, Some, None, if◌then◌else◌}
use Rattle.pdb_records.specs.Readings.{Read}
use Rattle.pdb_records.specs.declared.debug_information.SectionContribution.{SectionContribution}
use Rattle.pdb_msf.specs.declared.faults.TheConstants.{CUT, UNKNOWN_VERSION}
use Rattle.pdb_msf.specs.NumberLists.{number, two_byte_number}
use Rattle.pdb_msf.specs.ItemLists.{entry_list}
use Rattle.pdb_msf.specs.Readings.{with_fault, nothing_read}
use Rattle.pdb_dbi.specs.PublishedNumbers.{dbi_sc_version_2, dbi_sc_version_60}
use Rattle.pdb_dbi.specs.Substreams.{SubstreamBytes}

-- a contribution: its section (ISect) at 0, its Offset at 4, its Size at 8, and its module (ModuleIndex) at 16
abbrev pub contribution : List ℕ → SectionContribution
contribution bytes = record {
  offset = record { section = two_byte_number bytes; offset = number (drop 4 bytes) };
  size = number (drop 8 bytes);
  «module» = two_byte_number (drop 16 bytes);
}

-- the size of a contribution: 28 bytes in a list of version V60, and 32 in one of V2, which has one more number
abbrev pub contribution_size : ℕ → Option ℕ
contribution_size version =
    if version == dbi_sc_version_60 then Some 28 else
    if version == dbi_sc_version_2 then Some 32 else None

-- the contributions of this size; an error if the version is unknown and so there is no size
abbrev pub sized_contributions : Option ℕ → List ℕ → Read SectionContribution
sized_contributions None bytes = nothing_read (Some UNKNOWN_VERSION)
sized_contributions (Some size) bytes = entry_list contribution size bytes

-- the list of contributions: empty bytes have none; otherwise a four-byte version comes first
unfoldable pub contribution_list : List ℕ → Read SectionContribution
contribution_list bytes =
    if length bytes == 0 then nothing_read None else
    if nat_lt (length bytes) 4 then nothing_read (Some CUT) else
    sized_contributions (contribution_size (number bytes)) (drop 4 bytes)

-- the contributions of a substream
abbrev pub contributions : SubstreamBytes → Read SectionContribution
contributions substream = with_fault substream.fault (contribution_list substream.bytes)
