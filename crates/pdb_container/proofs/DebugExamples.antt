-- Worked examples of what a file says of its program, by a container written by hand.
use Rattle.std.proofs.Common.{◌≡◌, ℕ, List, [], ◌∷◌, ◌++◌, take, refl}
use Rattle.std.specs.Prelude.{Some, None, Ok, Err, true, codes}
use Rattle.std.proofs.Math.ListN.{replicate}
use Rattle.pdb_records.specs.declared.addresses.ImageSectionHeader.{ImageSectionHeader}
use Rattle.pdb_records.specs.declared.debug_information.MachineType.TheVariants as kind
use Rattle.pdb_records.specs.declared.symbols.SymbolData.TheVariants.{Public}
use Rattle.pdb_msf.specs.declared.faults.TheConstants.{NO_STREAM, REARRANGED}
use Rattle.pdb_msf.specs.Msf.{Msf, numbers_place, size_of, stream_of}
use Rattle.pdb_msf.specs.NumberLists.{listed}
use Rattle.pdb_msf.specs.Streams.{stream_inside}
use Rattle.pdb_msf.specs.ItemLists.{all_items}
use Rattle.pdb_dbi.specs.ContributionSubstream.{contribution_list}
use Rattle.pdb_dbi.specs.DebugHeader.{header}
use Rattle.pdb_dbi.specs.OptionalStreams.{optional_stream}
use Rattle.pdb_dbi.specs.SectionHeaders.{section_headers}
use Rattle.pdb_container.specs.DebugRecords.{address_map, address_map_of, debug_header, debug_information, debug_stream}
use Rattle.pdb_container.specs.DebugRecords.{global_symbols, sections, sections_of, symbol_stream}

-- a number below 256, as two bytes and as four
abbrev short : ℕ → List ℕ
short number = number ∷ 0 ∷ []

abbrev small : ℕ → List ℕ
small number = number ∷ 0 ∷ 0 ∷ 0 ∷ []

-- a block of 512 bytes that begins with these, with zeros after them
abbrev block_of : List ℕ → List ℕ
block_of bytes = take 512 (bytes ++ replicate 512 0)

-- two bytes that name no stream
abbrev no_number : List ℕ
no_number = 255 ∷ 255 ∷ []

-- a stream of debug information without modules and contributions, and with an optional debug header of 12 bytes
abbrev debug_bytes : List ℕ → List ℕ
debug_bytes optional =
    255 ∷ 255 ∷ 255 ∷ 255 ∷ 119 ∷ 9 ∷ 49 ∷ 1 ∷ [] ++ small 3 ++ replicate 36 0 ++ small 12 ++ small 0 ++ short 0
    ++ 100 ∷ 134 ∷ [] ++ small 0 ++ optional

-- the header of a section
abbrev text_section : List ℕ
text_section =
    codes ".text" ++ 0 ∷ 0 ∷ 0 ∷ 52 ∷ 18 ∷ 0 ∷ 0 ∷ 0 ∷ 16 ∷ 0 ∷ 0 ∷ [] ++ replicate 20 0 ++ 32 ∷ 0 ∷ 0 ∷ 96 ∷ []

-- five streams: three without bytes, that of debug information with the number 3, and section headers with the number 4
abbrev msf_with : List ℕ → Msf
msf_with optional = record {
  file = replicate 512 0 ++ block_of (debug_bytes optional) ++ block_of text_section;
  block_size = 512;
  directory = small 5 ++ small 0 ++ small 0 ++ small 0 ++ small 76 ++ small 40 ++ small 1 ++ small 2;
  sizes = 0 ∷ 0 ∷ 0 ∷ 76 ∷ 40 ∷ [];
}

-- section headers are named at the position 5
abbrev named : Msf
named = msf_with (no_number ++ no_number ++ no_number ++ no_number ++ no_number ++ short 4)

-- the section that they are
abbrev text : ImageSectionHeader
text = record { virtual_address = 4096; virtual_size = 4660; execute = true }

information : debug_information named ≡ Ok (record {
  machine_type = Ok kind.Amd64;
  modules = record { items = []; fault = None };
  section_contributions = record { items = []; fault = None };
})
unfolding debug_information debug_header debug_stream stream_of size_of listed stream_inside numbers_place header
    all_items contribution_list
information = refl

one_section : sections named ≡ Ok (Some (text ∷ []))
unfolding sections sections_of debug_header debug_stream stream_of size_of listed stream_inside numbers_place header
    optional_stream section_headers all_items
one_section = refl

one_range : address_map named ≡ Ok (record { virtual_address = 4096; virtual_size = 4660 } ∷ [])
unfolding address_map address_map_of sections_of debug_header debug_stream stream_of size_of listed stream_inside
    numbers_place header optional_stream section_headers all_items
one_range = refl

-- a stream of rearranged addresses at the position 3 that has bytes, and one at the position 4 that has none
rearranged : address_map (msf_with (no_number ++ no_number ++ no_number ++ short 4 ++ no_number ++ short 4))
    ≡ Err REARRANGED
unfolding address_map address_map_of debug_header debug_stream stream_of size_of listed stream_inside numbers_place
    header optional_stream
rearranged = refl

not_rearranged : address_map (msf_with (no_number ++ no_number ++ no_number ++ no_number ++ short 0 ++ short 4))
    ≡ Ok (record { virtual_address = 4096; virtual_size = 4660 } ∷ [])
unfolding address_map address_map_of sections_of debug_header debug_stream stream_of size_of listed stream_inside
    numbers_place header optional_stream section_headers all_items
not_rearranged = refl

-- no stream of section headers
without_sections : sections (msf_with (replicate 12 255)) ≡ Ok None
unfolding sections sections_of debug_header debug_stream stream_of size_of listed stream_inside numbers_place header
    optional_stream
without_sections = refl

nowhere_loaded : address_map (msf_with (replicate 12 255)) ≡ Err NO_STREAM
unfolding address_map address_map_of sections_of debug_header debug_stream stream_of size_of listed stream_inside
    numbers_place header optional_stream
nowhere_loaded = refl

-- a stream of debug information without bytes
no_information : debug_information (record named { sizes = 0 ∷ 0 ∷ 0 ∷ 0 ∷ 40 ∷ [] }) ≡ Err NO_STREAM
unfolding debug_information debug_header debug_stream size_of
no_information = refl

-- a public symbol (S_PUB32) of 20 bytes: pubsymflags of a function, off 16, seg 1, and the name
abbrev public_draw : List ℕ
public_draw = 18 ∷ 0 ∷ 14 ∷ 17 ∷ [] ++ small 2 ++ small 16 ++ short 1 ++ codes "draw" ++ 0 ∷ 0 ∷ []

-- the same streams, but that the one with the number 0, which SymRecordStream names, has this symbol
abbrev with_symbol : Msf
with_symbol = record {
  file = named.file ++ block_of public_draw;
  block_size = 512;
  directory = small 5 ++ small 20 ++ small 0 ++ small 0 ++ small 76 ++ small 40 ++ small 3 ++ small 1 ++ small 2;
  sizes = 20 ∷ 0 ∷ 0 ∷ 76 ∷ 40 ∷ [];
}

one_symbol : global_symbols with_symbol ≡ Ok (record {
  items = record {
    raw_kind = 0x110e;
    content = Some (Public (record { offset = record { section = 1; offset = 16 }; name = codes "draw" }));
  } ∷ [];
  fault = None;
})
unfolding global_symbols symbol_stream debug_header debug_stream stream_of size_of listed stream_inside numbers_place
    header all_items
one_symbol = refl

no_symbols : global_symbols named ≡ Ok (record { items = []; fault = None })
unfolding global_symbols symbol_stream debug_header debug_stream stream_of size_of listed stream_inside numbers_place
    header all_items
no_symbols = refl
