-- The debug information stream (DBI) and the streams that it names.
use Rattle.std.specs.Prelude.{ℕ, ◌==◌, Bool, false, not, List, [], length, Option, Some, None, Result, Ok, Err}
use Rattle.std.specs.Prelude.{if◌then◌else◌}
use Rattle.pdb_records.specs.Readings.{Read}
use Rattle.pdb_records.specs.declared.error.StreamError.{StreamError}
use Rattle.pdb_records.specs.declared.symbols.Symbol.{Symbol}
use Rattle.pdb_records.specs.declared.symbols.SymbolTable.{SymbolTable}
use Rattle.pdb_records.specs.declared.addresses.AddressRange.{AddressRange}
use Rattle.pdb_records.specs.declared.addresses.ImageSectionHeader.{ImageSectionHeader}
use Rattle.pdb_records.specs.declared.debug_information.DebugInformation.{DebugInformation}
use Rattle.pdb_msf.specs.declared.container_error.ContainerError.{ContainerError}
use Rattle.pdb_msf.specs.declared.faults.TheConstants.{NO_STREAM, REARRANGED}
use Rattle.pdb_msf.specs.Faults.{◌>>=◌}
use Rattle.pdb_msf.specs.Msf.{Msf, container, size_of, stream_of}
use Rattle.pdb_codeview.specs.SymbolContents.{global_symbols as symbols_of}
use Rattle.pdb_dbi.specs.declared.debug_header.DebugHeader.{DebugHeader}
use Rattle.pdb_dbi.specs.declared.module_substream.ModuleStream.{ModuleStream}
use Rattle.pdb_dbi.specs.ContributionSubstream.{contributions}
use Rattle.pdb_dbi.specs.DebugHeader.{header}
use Rattle.pdb_dbi.specs.ModuleSubstream.{module_streams, modules}
use Rattle.pdb_dbi.specs.OptionalStreams.{optional_stream}
use Rattle.pdb_dbi.specs.PublishedNumbers.{sn_nil}
use Rattle.pdb_dbi.specs.SectionHeaders.{loaded_at, section_headers}
use Rattle.pdb_container.specs.ModulePlaces.{ModuleOrFault, modules_read}
use Rattle.pdb_container.specs.UnnamedCode.{named_modules}

-- whether this is the size of a stream without bytes
abbrev pub is_no_size : Result ℕ StreamError → Bool
is_no_size (Ok size) = size == 0
is_no_size (Err fault) = false

-- the bytes of the debug information stream, which is stream 3; an empty stream counts as missing
unfoldable pub debug_stream : Msf → Result (List ℕ) StreamError
debug_stream msf = if is_no_size (size_of msf 3) then Err NO_STREAM else stream_of msf 3

-- the header of the debug information
unfoldable pub debug_header : Msf → Result DebugHeader StreamError
debug_header msf = debug_stream msf >>= header

-- what the header and its substreams say: the machine, the modules and the section contributions
abbrev pub information_of : DebugHeader → DebugInformation
information_of front = record {
  machine_type = Ok front.machine_type;
  modules = modules front.modules;
  section_contributions = contributions front.section_contributions;
}

-- the section headers in a stream, if the optional debug header names one
abbrev pub headers_in : Msf → Option ℕ → Result (Option (List ImageSectionHeader)) StreamError
headers_in msf None = Ok None
headers_in msf (Some number) = do
  stream ← stream_of msf number
  headers ← section_headers stream
  Ok (Some headers)

-- the section headers, in the stream that the optional debug header names at its position 5
unfoldable pub sections_of : Msf → DebugHeader → Result (Option (List ImageSectionHeader)) StreamError
sections_of msf front = headers_in msf (optional_stream front.optional_streams.bytes 5)

-- whether a named stream rearranges addresses: it does unless the stream is present and empty
abbrev pub rearranges : Msf → Option ℕ → Bool
rearranges msf None = false
rearranges msf (Some number) = not (is_no_size (size_of msf number))

-- the address range of each section; an error if there are no section headers
abbrev pub addresses_of : Option (List ImageSectionHeader) → Result (List AddressRange) StreamError
addresses_of None = Err NO_STREAM
addresses_of (Some headers) = Ok (loaded_at headers)

-- the address map by the section headers. It isn't known if addresses are rearranged, by the streams at the positions 3
-- and 4 of the optional debug header
unfoldable pub address_map_of : Msf → DebugHeader → Result (List AddressRange) StreamError
address_map_of msf front =
    if rearranges msf (optional_stream front.optional_streams.bytes 3) then Err REARRANGED else
    if rearranges msf (optional_stream front.optional_streams.bytes 4) then Err REARRANGED else
    (sections_of msf front >>= addresses_of)

-- the global symbols, in the stream of this number; an error if the number means no stream
unfoldable pub symbol_stream : Msf → ℕ → Result (Read Symbol) StreamError
symbol_stream msf number = if number == sn_nil then Err NO_STREAM else (do
  stream ← stream_of msf number
  Ok (symbols_of stream))

-- the symbols in a symbol table, or why there is none
abbrev pub tabled : Result SymbolTable StreamError → Result (Read Symbol) StreamError
tabled (Ok table) = Ok table.symbols
tabled (Err fault) = Err fault

-- the debug information of a container
unfoldable pub debug_information : Msf → Result DebugInformation StreamError
debug_information msf = debug_header msf >>= λ front. Ok (information_of front)

-- the sections of a container
unfoldable pub sections : Msf → Result (Option (List ImageSectionHeader)) StreamError
sections msf = debug_header msf >>= sections_of msf

-- the address map of a container
unfoldable pub address_map : Msf → Result (List AddressRange) StreamError
address_map msf = debug_header msf >>= address_map_of msf

-- the global symbols of a container; SymRecordStream of the DBI header is the number of their stream
unfoldable pub global_symbols : Msf → Result (Read Symbol) StreamError
global_symbols msf = debug_header msf >>= λ front. symbol_stream msf front.global_symbols

-- the stream of each module that a header lists; no modules without a header
abbrev pub streams_by : Result DebugHeader StreamError → List ModuleStream
streams_by (Ok front) = module_streams front.modules
streams_by (Err fault) = []

-- the stream of each module that a container's DBI header lists
unfoldable pub streams_of_modules : Msf → List ModuleStream
streams_of_modules msf = streams_by (debug_header msf)

-- the records of each module of a container, with names for chunks and jumps; the length of the file bounds how many
-- bytes these names take
unfoldable pub module_infos : Msf → List ModuleOrFault
module_infos msf =
    named_modules (length msf.file) (global_symbols msf) (modules_read msf (streams_of_modules msf))

-- one part of a file's records, taken from the file's container; or why the file is no container
abbrev pub of_file : {A : Type 0} → (Msf → A) → List ℕ → Result A ContainerError
of_file part file = container file >>= λ msf. Ok (part msf)
