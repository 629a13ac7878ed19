-- Worked examples of the stream of debug information: bytes written by hand, and what they mean.
use Rattle.std.proofs.Common.{◌≡◌, ℕ, List, [], ◌∷◌, ◌++◌, take, drop, refl}
use Rattle.std.specs.Prelude.{Some, None, Ok, Err, true, codes}
use Rattle.pdb_records.specs.Readings.{Read}
use Rattle.pdb_records.specs.declared.debug_information.MachineType.TheVariants as kind
use Rattle.pdb_records.specs.declared.debug_information.SectionContribution.{SectionContribution}
use Rattle.pdb_msf.specs.declared.faults.TheConstants.{CUT, UNKNOWN_VERSION}
use Rattle.pdb_dbi.specs.ContributionSubstream.{contribution_list, contributions}
use Rattle.pdb_dbi.specs.DebugHeader.{header}
use Rattle.pdb_dbi.specs.ModuleSubstream.{module_streams, modules}
use Rattle.pdb_dbi.specs.OptionalStreams.{optional_stream}
use Rattle.pdb_msf.specs.ItemLists.{all_items}
use Rattle.pdb_dbi.specs.SectionHeaders.{loaded_at, section_headers}
use Rattle.pdb_dbi.specs.Substreams.{SubstreamBytes}

-- a number below 256, as two bytes and as four
abbrev short : ℕ → List ℕ
short number = number ∷ 0 ∷ []

abbrev small : ℕ → List ℕ
small number = number ∷ 0 ∷ 0 ∷ 0 ∷ []

-- a contribution as the format lays it out: ISect, Offset, Size, Characteristics, ModuleIndex, DataCrc and RelocCrc
abbrev contribution_bytes : ℕ → ℕ → ℕ → ℕ → List ℕ
contribution_bytes section offset size module_index =
    short section ++ short 0 ++ small offset ++ small size ++ 32 ∷ 0 ∷ 0 ∷ 96 ∷ [] ++ short module_index ++ short 0
    ++ small 9 ++ small 8

-- the front of a module: an unused number, its first contribution, Flags, ModuleSymStream, SymByteSize, C11ByteSize,
-- C13ByteSize, SourceFileCount, an unused number, and where its source file and its PDB file have their names
abbrev module_front : ℕ → ℕ → ℕ → List ℕ
module_front stream symbols lines =
    small 0 ++ contribution_bytes 1 0 0 0 ++ short 0 ++ short stream ++ small symbols ++ small 0 ++ small lines
    ++ short 1 ++ short 0 ++ small 0 ++ small 0 ++ small 0

-- two modules: one of 76 bytes, and one of 70 with two bytes after it
abbrev module_bytes : List ℕ
module_bytes =
    module_front 12 40 8 ++ codes "a.obj" ++ 0 ∷ [] ++ codes "a.obj" ++ 0 ∷ []
    ++ module_front 13 44 0 ++ codes "b" ++ 0 ∷ [] ++ codes "lib" ++ 0 ∷ 0 ∷ 0 ∷ []

-- two contributions of the version V60
abbrev v60_bytes : List ℕ
v60_bytes = 45 ∷ 186 ∷ 46 ∷ 241 ∷ [] ++ contribution_bytes 1 16 32 0 ++ contribution_bytes 2 0 8 1

-- the same of the version V2, each with the section in its object file after it
abbrev v2_bytes : List ℕ
v2_bytes =
    228 ∷ 81 ∷ 49 ∷ 241 ∷ [] ++ contribution_bytes 1 16 32 0 ++ small 3 ++ contribution_bytes 2 0 8 1 ++ small 4

-- the optional debug header: no stream at the positions 0 to 4, and the section headers in the stream 10
abbrev optional_bytes : List ℕ
optional_bytes =
    255 ∷ 255 ∷ 255 ∷ 255 ∷ 255 ∷ 255 ∷ 255 ∷ 255 ∷ 255 ∷ 255 ∷ [] ++ short 10

-- the header: VersionSignature, VersionHeader, Age, GlobalStreamIndex, BuildNumber, PublicStreamIndex, PdbDllVersion,
-- SymRecordStream, PdbDllRbld, ModInfoSize, SectionContributionSize, SectionMapSize, SourceInfoSize, TypeServerMapSize,
-- MFCTypeServerIndex, OptionalDbgHeaderSize, ECSubstreamSize, Flags, Machine, and padding
abbrev header_bytes : List ℕ
header_bytes =
    255 ∷ 255 ∷ 255 ∷ 255 ∷ 119 ∷ 9 ∷ 49 ∷ 1 ∷ [] ++ small 3 ++ short 5 ++ 29 ∷ 142 ∷ [] ++ short 6 ++ short 0
    ++ short 7 ++ short 0 ++ small 148 ++ small 60 ++ small 4 ++ small 8 ++ small 0 ++ small 0 ++ small 12 ++ small 4
    ++ short 0 ++ 100 ∷ 134 ∷ [] ++ small 0

-- the stream: header, modules, contributions, a section map and a list of sources of which nothing is read, names of
-- edit and continue, and the optional debug header
abbrev stream : List ℕ
stream = header_bytes ++ module_bytes ++ v60_bytes ++ small 1 ++ small 2 ++ small 2 ++ small 3 ++ optional_bytes

-- bytes that are all there
abbrev whole_bytes : List ℕ → SubstreamBytes
whole_bytes bytes = record { bytes = bytes; fault = None }

stream_means : header stream ≡ Ok (record {
  age = 3;
  machine = 34404;
  global_symbols = 7;
  machine_type = kind.Amd64;
  modules = whole_bytes module_bytes;
  section_contributions = whole_bytes v60_bytes;
  optional_streams = whole_bytes optional_bytes;
})
unfolding header
stream_means = refl

-- the modules, and where their records stand
two_modules : modules (whole_bytes module_bytes) ≡ record {
  items = record { name = codes "a.obj" } ∷ record { name = codes "b" } ∷ [];
  fault = None;
}
unfolding all_items
two_modules = refl

two_streams : module_streams (whole_bytes module_bytes) ≡
    record { stream = 12; symbols = 40; c11_lines = 0; lines = 8 }
    ∷ record { stream = 13; symbols = 44; c11_lines = 0; lines = 0 } ∷ []
unfolding all_items
two_streams = refl

-- a list that ends in the name of its second module
second_module_cut : modules (whole_bytes (take 141 module_bytes)) ≡ record {
  items = record { name = codes "a.obj" } ∷ [];
  fault = Some CUT;
}
unfolding all_items
second_module_cut = refl

-- both lists of contributions
abbrev two_contributions : Read SectionContribution
two_contributions = record {
  items = record { offset = record { section = 1; offset = 16 }; size = 32; «module» = 0 }
      ∷ record { offset = record { section = 2; offset = 0 }; size = 8; «module» = 1 } ∷ [];
  fault = None;
}

contributions_of_v60 : contributions (whole_bytes v60_bytes) ≡ two_contributions
unfolding contribution_list all_items
contributions_of_v60 = refl

contributions_of_v2 : contributions (whole_bytes v2_bytes) ≡ two_contributions
unfolding contribution_list all_items
contributions_of_v2 = refl

-- a list whose substream ends early, and one of no version
contributions_cut : contributions (record { bytes = take 32 v60_bytes; fault = Some CUT }) ≡ record {
  items = record { offset = record { section = 1; offset = 16 }; size = 32; «module» = 0 } ∷ [];
  fault = Some CUT;
}
unfolding contribution_list all_items
contributions_cut = refl

no_version : contributions (whole_bytes (small 1 ++ contribution_bytes 1 16 32 0)) ≡
    record { items = []; fault = Some UNKNOWN_VERSION }
unfolding contribution_list all_items
no_version = refl

-- the optional debug header: a stream that is there, one that isn't, and one after its end
section_header_stream : optional_stream optional_bytes 5 ≡ Some 10
unfolding optional_stream
section_header_stream = refl

no_rearranged_addresses : optional_stream optional_bytes 3 ≡ None
unfolding optional_stream
no_rearranged_addresses = refl

behind_the_end : optional_stream optional_bytes 6 ≡ None
unfolding optional_stream
behind_the_end = refl

-- a section header: Name, VirtualSize, VirtualAddress, SizeOfRawData, PointerToRawData, PointerToRelocations,
-- PointerToLinenumbers, NumberOfRelocations, NumberOfLinenumbers, Characteristics
abbrev text_section : List ℕ
text_section =
    codes ".text" ++ 0 ∷ 0 ∷ 0 ∷ 52 ∷ 18 ∷ 0 ∷ 0 ∷ 0 ∷ 16 ∷ 0 ∷ 0 ∷ 0 ∷ 20 ∷ 0 ∷ 0 ∷ 0 ∷ 4 ∷ 0 ∷ 0 ∷ []
    ++ small 0 ++ small 0 ++ short 0 ++ short 0 ++ 32 ∷ 0 ∷ 0 ∷ 96 ∷ []

one_section : section_headers text_section ≡
    Ok (record { virtual_address = 4096; virtual_size = 4660; execute = true } ∷ [])
unfolding section_headers all_items
one_section = refl

section_cut : section_headers (text_section ++ take 39 text_section) ≡ Err CUT
unfolding section_headers all_items
section_cut = refl

one_address_range : loaded_at (record { virtual_address = 4096; virtual_size = 4660; execute = true } ∷ []) ≡
    record { virtual_address = 4096; virtual_size = 4660 } ∷ []
one_address_range = refl

-- a header of 63 bytes, and one without the signature
header_cut : header (take 63 stream) ≡ Err CUT
unfolding header
header_cut = refl

no_signature : header (drop 4 stream) ≡ Err UNKNOWN_VERSION
unfolding header
no_signature = refl

-- a stream that ends in its contributions
stream_cut : header (take 256 stream) ≡ Ok (record {
  age = 3;
  machine = 34404;
  global_symbols = 7;
  machine_type = kind.Amd64;
  modules = whole_bytes module_bytes;
  section_contributions = record { bytes = take 44 v60_bytes; fault = Some CUT };
  optional_streams = record { bytes = []; fault = Some CUT };
})
unfolding header
stream_cut = refl
