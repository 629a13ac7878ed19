-- The header of the debug information stream (DBI), and the substreams after it.
use Rattle.std.specs.Prelude.{ℕ, ◌+◌, ◌==◌, nat_lt, not, List, drop, length, Result, Ok, Err, if◌then◌else◌}
use Rattle.pdb_records.specs.declared.error.StreamError.{StreamError}
use Rattle.pdb_records.specs.declared.debug_information.MachineType.{MachineType}
use Rattle.pdb_records.specs.declared.debug_information.MachineType.TheVariants as kind
use Rattle.pdb_msf.specs.declared.faults.TheConstants.{CUT, UNKNOWN_VERSION}
use Rattle.pdb_msf.specs.NumberLists.{number, two_byte_number}
use Rattle.pdb_dbi.specs.declared.debug_header.DebugHeader.{DebugHeader}
use Rattle.pdb_dbi.specs.PublishedNumbers.{image_file_machine_amd64, image_file_machine_arm64}
use Rattle.pdb_dbi.specs.PublishedNumbers.{image_file_machine_arm64ec, image_file_machine_ia64}
use Rattle.pdb_dbi.specs.PublishedNumbers.{image_file_machine_riscv128, image_file_machine_riscv64}
use Rattle.pdb_dbi.specs.Substreams.{substream}

-- VersionSignature, the header's first number: -1 in four bytes
abbrev pub version_signature : ℕ
version_signature = 4294967295

-- ModInfoSize, at 24: the size of the list of modules in bytes
abbrev pub mod_info_size : List ℕ → ℕ
mod_info_size stream = number (drop 24 stream)

-- SectionContributionSize, at 28: the size of the section contributions in bytes
abbrev pub section_contribution_size : List ℕ → ℕ
section_contribution_size stream = number (drop 28 stream)

-- SectionMapSize, at 32: the size of the section map in bytes
abbrev pub section_map_size : List ℕ → ℕ
section_map_size stream = number (drop 32 stream)

-- SourceInfoSize, at 36: the size of the list of source files in bytes
abbrev pub source_info_size : List ℕ → ℕ
source_info_size stream = number (drop 36 stream)

-- TypeServerMapSize, at 40: the size of the map of type servers in bytes
abbrev pub type_server_map_size : List ℕ → ℕ
type_server_map_size stream = number (drop 40 stream)

-- OptionalDbgHeaderSize, at 48: the size of the optional debug header in bytes
abbrev pub optional_dbg_header_size : List ℕ → ℕ
optional_dbg_header_size stream = number (drop 48 stream)

-- ECSubstreamSize, at 52: the size of the edit-and-continue names in bytes
abbrev pub ec_substream_size : List ℕ → ℕ
ec_substream_size stream = number (drop 52 stream)

-- where the list of modules starts: after the 64-byte header
abbrev pub modules_place : ℕ
modules_place = 64

-- where the section contributions start: after the list of modules
abbrev pub contributions_place : List ℕ → ℕ
contributions_place stream = modules_place + mod_info_size stream

-- where the optional debug header starts: last, after contributions, section map, source files, type servers, and
-- edit-and-continue names
abbrev pub optional_place : List ℕ → ℕ
optional_place stream =
    contributions_place stream + section_contribution_size stream + section_map_size stream + source_info_size stream
    + type_server_map_size stream + ec_substream_size stream

-- the machine type of a number: x64, Arm64 (which includes Arm64EC), Itanium, RISC-V, or another
abbrev pub machine_type : ℕ → MachineType
machine_type code =
    if code == image_file_machine_amd64 then kind.Amd64 else
    if code == image_file_machine_arm64 then kind.Arm64 else
    if code == image_file_machine_arm64ec then kind.Arm64 else
    if code == image_file_machine_ia64 then kind.Ia64 else
    if code == image_file_machine_riscv64 then kind.RiscV64 else
    if code == image_file_machine_riscv128 then kind.RiscV128 else
    kind.Other

-- the fields of the header that are read: Age at 8, SymRecordStream at 20, Machine at 58, and three of the substreams
abbrev pub header_fields : List ℕ → DebugHeader
header_fields stream = record {
  age = number (drop 8 stream);
  machine = two_byte_number (drop 58 stream);
  global_symbols = two_byte_number (drop 20 stream);
  machine_type = machine_type (two_byte_number (drop 58 stream));
  modules = substream (mod_info_size stream) (drop modules_place stream);
  section_contributions = substream (section_contribution_size stream) (drop (contributions_place stream) stream);
  optional_streams = substream (optional_dbg_header_size stream) (drop (optional_place stream) stream);
}

-- the header of a stream: it needs all 64 bytes, and the signature in the first four
unfoldable pub header : List ℕ → Result DebugHeader StreamError
header stream =
    if nat_lt (length stream) 64 then Err CUT else
    if not (number stream == version_signature) then Err UNKNOWN_VERSION else
    Ok (header_fields stream)
