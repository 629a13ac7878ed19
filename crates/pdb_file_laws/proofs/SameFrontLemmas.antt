-- What two containers say before any module that have the same front.
use Rattle.std.proofs.Common.{◌≡◌, ◌∙◌, ℕ, ◌==◌, Bool, true, false, List, [], ◌∷◌, Option, Some, None, Result, Ok, Err}
use Rattle.std.proofs.Common.{refl, sym, ap, subst}
use Rattle.std.specs.Prelude.{◌-◌, not, nat_lt, slice_get, if◌then◌else◌}
use Rattle.std.specs.Option.{unwrap_or}
use Rattle.std.specs.Result.{result_ok}
use Rattle.pdb_records.specs.Records.{Records}
use Rattle.pdb_records.specs.declared.addresses.AddressRange.{AddressRange}
use Rattle.pdb_records.specs.declared.addresses.ImageSectionHeader.{ImageSectionHeader}
use Rattle.pdb_records.specs.declared.error.StreamError.{StreamError}
use Rattle.pdb_msf.specs.declared.faults.TheConstants.{NO_STREAM, REARRANGED, TOO_LONG}
use Rattle.pdb_msf.specs.Faults.{◌>>=◌}
use Rattle.pdb_msf.specs.Msf.{Msf, present, size_of, stream_of}
use Rattle.pdb_codeview.specs.SymbolContents.{global_symbols as symbols_of}
use Rattle.pdb_dbi.specs.declared.debug_header.DebugHeader.{DebugHeader}
use Rattle.pdb_dbi.specs.declared.module_substream.ModuleStream.{ModuleStream}
use Rattle.pdb_dbi.specs.DebugHeader.{header}
use Rattle.pdb_dbi.specs.OptionalStreams.{optional_stream, stream_number}
use Rattle.pdb_dbi.specs.PublishedNumbers.{sn_nil}
use Rattle.pdb_dbi.specs.SectionHeaders.{section_headers}
use Rattle.pdb_container.specs.DebugRecords.{address_map, address_map_of, addresses_of, debug_header, debug_information}
use Rattle.pdb_container.specs.DebugRecords.{debug_stream, global_symbols, headers_in, information_of, is_no_size}
use Rattle.pdb_container.specs.DebugRecords.{rearranges, sections, sections_of, streams_by, streams_of_modules}
use Rattle.pdb_container.specs.DebugRecords.{symbol_stream}
use Rattle.pdb_container.specs.Info.{named_stream}
use Rattle.pdb_container.specs.ModulePlaces.{PlaceOrFault, bytes_read, left_behind, place_within, places_within}
use Rattle.pdb_container.specs.Front.{HasFront}
use Rattle.pdb_container.specs.PdbFile.{table_of}
use Rattle.pdb_container.specs.NameStream.{names_name, string_table, string_table_in}
use Rattle.pdb_file_laws.specs.SameFronts.{SameFronts}

-- the second meaning over one value, where the second ones agree on the value that there is
bind_known : {A B : Type 0} (first : Result A StreamError) (f g : A → Result B StreamError)
    → ((value : A) → first ≡ Ok value → f value ≡ g value) → (first >>= f) ≡ (first >>= g)
bind_known (Ok value) f g same = same value refl
bind_known (Err error) f g same = refl

-- a stream has the same size where all streams have
same_size : (a b : Msf) → a.sizes ≡ b.sizes → (number : ℕ) → size_of a number ≡ size_of b number
unfolding size_of
same_size a b sizes number = ap (λ listed. present (slice_get listed number)) sizes

-- streams have the same sizes
sizes_same : (a b : Msf) → SameFronts a b → (number : ℕ) → size_of a number ≡ size_of b number
sizes_same a b same = same_size a b same.sizes

-- the header of debug information is the same where streams have the same sizes, and that stream the same bytes
pub same_header : (a b : Msf) → a.sizes ≡ b.sizes → stream_of a 3 ≡ stream_of b 3 → debug_header a ≡ debug_header b
unfolding debug_header debug_stream
same_header a b sizes debug =
    ap (λ size. (if is_no_size size then Err NO_STREAM else stream_of a 3) >>= header) (same_size a b sizes 3)
    ∙ ap (λ bytes. (if is_no_size (size_of b 3) then Err NO_STREAM else bytes) >>= header) debug

-- the header of the debug information is the same
pub header_same : (a b : Msf) → SameFronts a b → debug_header a ≡ debug_header b
header_same a b same = same_header a b same.sizes same.debug

-- so is the debug information
information_same : (a b : Msf) → SameFronts a b → debug_information a ≡ debug_information b
unfolding debug_information
information_same a b same = ap (λ front. front >>= (λ h. Ok (information_of h))) (header_same a b same)

-- the section headers of a stream that has the same bytes
headers_same : (a b : Msf) (number : Option ℕ) → ((n : ℕ) → number ≡ Some n → stream_of a n ≡ stream_of b n)
    → headers_in a number ≡ headers_in b number
headers_same a b None same = refl
headers_same a b (Some number) same =
    ap (λ bytes. bytes >>= (λ found. section_headers found >>= (λ headers. Ok (Some headers)))) (same number refl)

-- the sections of the header
sections_of_same : (a b : Msf) → SameFronts a b → (front : DebugHeader) → debug_header a ≡ Ok front
    → sections_of a front ≡ sections_of b front
unfolding sections_of
sections_of_same a b same front is =
    headers_same a b (optional_stream front.optional_streams.bytes 5) (λ number named. same.sections front number is named)

-- a part that both headers lead to is the same
by_header : {A : Type 0} (a b : Msf) → SameFronts a b → (part : Msf → DebugHeader → Result A StreamError)
    → ((front : DebugHeader) → debug_header a ≡ Ok front → part a front ≡ part b front)
    → (debug_header a >>= part a) ≡ (debug_header b >>= part b)
by_header a b same part alike =
    bind_known (debug_header a) (part a) (part b) alike ∙ ap (λ front. front >>= part b) (header_same a b same)

sections_same : (a b : Msf) → SameFronts a b → sections a ≡ sections b
unfolding sections
sections_same a b same = by_header a b same sections_of (sections_of_same a b same)

-- whether addresses are rearranged by a stream
rearranges_same : (a b : Msf) → SameFronts a b → (number : Option ℕ) → rearranges a number ≡ rearranges b number
rearranges_same a b same None = refl
rearranges_same a b same (Some number) = ap (λ size. not (is_no_size size)) (sizes_same a b same number)

-- the address map by whether addresses are rearranged, and the sections
map_by : Bool → Bool → Result (Option (List ImageSectionHeader)) StreamError → Result (List AddressRange) StreamError
map_by to from headers = if to then Err REARRANGED else (if from then Err REARRANGED else (headers >>= addresses_of))

-- the address map of the header
map_of_same : (a b : Msf) → SameFronts a b → (front : DebugHeader) → debug_header a ≡ Ok front
    → address_map_of a front ≡ address_map_of b front
unfolding address_map_of map_by
map_of_same a b same front is =
    let numbers : List ℕ = front.optional_streams.bytes in
    ap (λ t. map_by t (rearranges a (optional_stream numbers 4)) (sections_of a front))
    (rearranges_same a b same (optional_stream numbers 3))
    ∙ ap (λ t. map_by (rearranges b (optional_stream numbers 3)) t (sections_of a front))
    (rearranges_same a b same (optional_stream numbers 4))
    ∙ ap (map_by (rearranges b (optional_stream numbers 3)) (rearranges b (optional_stream numbers 4)))
    (sections_of_same a b same front is)

address_map_same : (a b : Msf) → SameFronts a b → address_map a ≡ address_map b
unfolding address_map
address_map_same a b same = by_header a b same address_map_of (map_of_same a b same)

-- the symbols in the stream of a number, where one that is there has the same bytes
symbols_in_same : (a b : Msf) (number : ℕ)
    → ((n : ℕ) → stream_number number ≡ Some n → stream_of a n ≡ stream_of b n)
    → symbol_stream a number ≡ symbol_stream b number
unfolding symbol_stream
symbols_in_same a b number = by_test (number == sn_nil) where
  by_test : (none : Bool) → ((n : ℕ) → (if none then None else Some number) ≡ Some n → stream_of a n ≡ stream_of b n)
      → (if none then Err NO_STREAM else (stream_of a number >>= (λ found. Ok (symbols_of found))))
      ≡ (if none then Err NO_STREAM else (stream_of b number >>= (λ found. Ok (symbols_of found))))
  by_test true same = refl
  by_test false same = ap (λ bytes. bytes >>= (λ found. Ok (symbols_of found))) (same number refl)

global_symbols_same : (a b : Msf) → SameFronts a b → global_symbols a ≡ global_symbols b
unfolding global_symbols
global_symbols_same a b same = by_header a b same (λ msf h. symbol_stream msf h.global_symbols)
    (λ front is. symbols_in_same a b front.global_symbols (λ number there. same.symbols front number is there))

string_table_same : (a b : Msf) → SameFronts a b → string_table a ≡ string_table b
unfolding string_table
string_table_same a b same =
    bind_known (named_stream names_name (stream_of a 1)) (λ number. stream_of a number >>= string_table_in)
    (λ number. stream_of b number >>= string_table_in)
    (λ number is. ap (λ bytes. bytes >>= string_table_in) (same.texts number is))
    ∙ ap (λ info. named_stream names_name info >>= (λ number. stream_of b number >>= string_table_in)) same.info

-- records that have the front of one have that of the other
pub front_same : (a b : Msf) (records : Records) → SameFronts a b → HasFront a records → HasFront b records
front_same a b records same (in_sections, in_map, in_symbols, in_debug, in_texts) = (
  in_sections ∙ sections_same a b same,
  in_map ∙ address_map_same a b same,
  in_symbols ∙ ap table_of (global_symbols_same a b same),
  in_debug ∙ information_same a b same,
  in_texts ∙ string_table_same a b same,
)

-- both list the same streams of modules
pub streams_same : (a b : Msf) → SameFronts a b → streams_of_modules a ≡ streams_of_modules b
unfolding streams_of_modules
streams_same a b same = ap streams_by (header_same a b same)

-- how many bytes are read of a stream
read_same : (a b : Msf) → SameFronts a b → (number : ℕ) → bytes_read a number ≡ bytes_read b number
read_same a b same number = ap (λ size. unwrap_or (result_ok size) 0) (sizes_same a b same number)

-- where the records of modules are, in files of one length
pub places_same : (a b : Msf) → SameFronts a b → (left : ℕ) (places : List ModuleStream)
    → places_within a left places ≡ places_within b left places
places_same a b same left [] = refl
places_same a b same left (place ∷ places) =
    ap (λ first. first ∷ places_within a (left_behind a left place) places) (place_same left place)
    ∙ ap (λ rest. place_within b left place ∷ places_within a rest places) (left_same left place)
    ∙ ap (λ rest. place_within b left place ∷ rest) (places_same a b same (left_behind b left place) places) where
      place_same : (left : ℕ) (place : ModuleStream) → place_within a left place ≡ place_within b left place
      place_same left place = ap (λ size. if place.stream == sn_nil then Ok None else
          if nat_lt left size then Err TOO_LONG else Ok (Some place)) (read_same a b same place.stream)

      left_same : (left : ℕ) (place : ModuleStream) → left_behind a left place ≡ left_behind b left place
      left_same left place = ap (λ size. if place.stream == sn_nil then left else
          if nat_lt left size then left else left - size) (read_same a b same place.stream)
