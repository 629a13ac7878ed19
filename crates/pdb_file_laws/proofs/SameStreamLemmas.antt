-- What two containers say that hold the same streams.
use Rattle.std.proofs.Common.{◌≡◌, ◌∙◌, ℕ, suc, ◌+◌, ◌*◌, ◌-◌, ◌==◌, Bool, false, List, [], ◌∷◌, ◌++◌, take}
use Rattle.std.proofs.Common.{drop, length, map, Option, Some, None, Result, Ok, Err, refl, sym, ap, arith}
use Rattle.std.proofs.Math.Path.{fun_ext}
use Rattle.std.specs.Prelude.{All, nat_lt, not, slice_get, option_map, option_and_then, if◌then◌else◌}
use Rattle.std.specs.Int.{div_ceil}
use Rattle.std.specs.List.{sum_by}
use Rattle.std.specs.Option.{unwrap_or}
use Rattle.std.specs.Result.{result_ok}
use Rattle.pdb_records.specs.declared.addresses.AddressRange.{AddressRange}
use Rattle.pdb_records.specs.declared.addresses.ImageSectionHeader.{ImageSectionHeader}
use Rattle.pdb_records.specs.declared.error.StreamError.{StreamError}
use Rattle.pdb_msf.specs.declared.faults.TheConstants.{BLOCK_OUTSIDE, NO_STREAM, REARRANGED, TOO_LONG}
use Rattle.pdb_msf.specs.Directory.{block_count}
use Rattle.pdb_msf.specs.Faults.{◌>>=◌}
use Rattle.pdb_msf.specs.Msf.{Msf, container, numbers_place, present, size_of, stream_blocks, stream_of}
use Rattle.pdb_msf.specs.NumberLists.{listed}
use Rattle.pdb_msf.specs.Streams.{all_inside, block, bytes_of_blocks, stream, stream_inside}
use Rattle.pdb_codeview.specs.SymbolContents.{global_symbols as symbols_of}
use Rattle.pdb_dbi.specs.declared.debug_header.DebugHeader.{DebugHeader}
use Rattle.pdb_dbi.specs.declared.module_substream.ModuleStream.{ModuleStream}
use Rattle.pdb_dbi.specs.DebugHeader.{header}
use Rattle.pdb_dbi.specs.ModuleSubstream.{module_streams}
use Rattle.pdb_dbi.specs.OptionalStreams.{optional_stream}
use Rattle.pdb_dbi.specs.SectionHeaders.{section_headers}
use Rattle.pdb_identity.specs.InfoHeader.{info_header}
use Rattle.pdb_container.specs.DebugRecords.{address_map, address_map_of, addresses_of, debug_header, debug_information}
use Rattle.pdb_container.specs.DebugRecords.{debug_stream, global_symbols, headers_in, information_of, is_no_size}
use Rattle.pdb_container.specs.DebugRecords.{module_infos, rearranges, sections, sections_of, streams_by}
use Rattle.pdb_container.specs.DebugRecords.{streams_of_modules, symbol_stream}
use Rattle.pdb_container.specs.Identity.{build_of, debug_build, identity, identity_by}
use Rattle.pdb_container.specs.Info.{features, named_stream}
use Rattle.pdb_file_laws.specs.SameStreams.{HoldSame, SameStreams, ShareBlocks}
use Rattle.pdb_container.specs.ModulePlaces.{ModuleOrFault, PlaceOrFault, bytes_read, left_behind, module_of}
use Rattle.pdb_container.specs.ModulePlaces.{module_there, modules_read, place_within, places_within}
use Rattle.pdb_container.specs.ModuleStreams.{module_in}
use Rattle.pdb_container.specs.PdbFile.{records, records_of, table_of}
use Rattle.pdb_container.specs.NameStream.{names_name, string_table, string_table_in}
use Rattle.pdb_container.specs.TypeRecords.{id_information, ids_in, type_information}
use Rattle.pdb_tpi.specs.IdLeaves.{no_ids}
use Rattle.pdb_tpi.specs.TypeLeaves.{types_of}
use Rattle.pdb_container.specs.UnnamedCode.{named_modules}

-- the second meaning over one value, where the second ones agree
bind_same : {A B : Type 0} (first : Result A StreamError) (f g : A → Result B StreamError)
    → ((value : A) → f value ≡ g value) → (first >>= f) ≡ (first >>= g)
bind_same (Ok value) f g same = same value
bind_same (Err error) f g same = refl

-- streams have the same sizes
sizes_same : (a b : Msf) → SameStreams a b → (number : ℕ) → size_of a number ≡ size_of b number
unfolding size_of
sizes_same a b same number = ap (λ sizes. present (slice_get sizes number)) same.sizes

-- the header of the debug information is the same
header_same : (a b : Msf) → SameStreams a b → debug_header a ≡ debug_header b
unfolding debug_header debug_stream
header_same a b same =
    ap (λ size. (if is_no_size size then Err NO_STREAM else stream_of a 3) >>= header) (sizes_same a b same 3)
    ∙ ap (λ bytes. (if is_no_size (size_of b 3) then Err NO_STREAM else bytes) >>= header) (same.streams 3)

-- so is the debug information
information_same : (a b : Msf) → SameStreams a b → debug_information a ≡ debug_information b
unfolding debug_information
information_same a b same = ap (λ front. front >>= (λ h. Ok (information_of h))) (header_same a b same)

-- the section headers of a stream
headers_same : (a b : Msf) → SameStreams a b → (number : Option ℕ) → headers_in a number ≡ headers_in b number
headers_same a b same None = refl
headers_same a b same (Some number) =
    ap (λ bytes. bytes >>= (λ found. section_headers found >>= (λ headers. Ok (Some headers)))) (same.streams number)

-- the sections of a header
sections_of_same : (a b : Msf) → SameStreams a b → (front : DebugHeader) → sections_of a front ≡ sections_of b front
unfolding sections_of
sections_of_same a b same front = headers_same a b same (optional_stream front.optional_streams.bytes 5)

sections_same : (a b : Msf) → SameStreams a b → sections a ≡ sections b
unfolding sections
sections_same a b same =
    ap (λ front. front >>= sections_of a) (header_same a b same)
    ∙ bind_same (debug_header b) (sections_of a) (sections_of b) (sections_of_same a b same)

-- whether addresses are rearranged by a stream
rearranges_same : (a b : Msf) → SameStreams a b → (number : Option ℕ) → rearranges a number ≡ rearranges b number
rearranges_same a b same None = refl
rearranges_same a b same (Some number) = ap (λ size. not (is_no_size size)) (sizes_same a b same number)

-- the address map by whether addresses are rearranged, and the sections
map_by : Bool → Bool → Result (Option (List ImageSectionHeader)) StreamError → Result (List AddressRange) StreamError
map_by to from headers = if to then Err REARRANGED else (if from then Err REARRANGED else (headers >>= addresses_of))

-- the address map of a header
map_of_same : (a b : Msf) → SameStreams a b → (front : DebugHeader) → address_map_of a front ≡ address_map_of b front
unfolding address_map_of map_by
map_of_same a b same front =
    let numbers : List ℕ = front.optional_streams.bytes in
    ap (λ t. map_by t (rearranges a (optional_stream numbers 4)) (sections_of a front))
    (rearranges_same a b same (optional_stream numbers 3))
    ∙ ap (λ t. map_by (rearranges b (optional_stream numbers 3)) t (sections_of a front))
    (rearranges_same a b same (optional_stream numbers 4))
    ∙ ap (map_by (rearranges b (optional_stream numbers 3)) (rearranges b (optional_stream numbers 4)))
    (sections_of_same a b same front)

address_map_same : (a b : Msf) → SameStreams a b → address_map a ≡ address_map b
unfolding address_map
address_map_same a b same =
    ap (λ front. front >>= address_map_of a) (header_same a b same)
    ∙ bind_same (debug_header b) (address_map_of a) (address_map_of b) (map_of_same a b same)

-- the symbols in the stream of a number
symbols_in_same : (a b : Msf) → SameStreams a b → (number : ℕ) → symbol_stream a number ≡ symbol_stream b number
unfolding symbol_stream
symbols_in_same a b same number =
    ap (λ bytes. if number == 65535 then Err NO_STREAM else (bytes >>= (λ found. Ok (symbols_of found))))
    (same.streams number)

global_symbols_same : (a b : Msf) → SameStreams a b → global_symbols a ≡ global_symbols b
unfolding global_symbols
global_symbols_same a b same =
    ap (λ front. front >>= (λ h. symbol_stream a h.global_symbols)) (header_same a b same)
    ∙ bind_same (debug_header b) (λ h. symbol_stream a h.global_symbols) (λ h. symbol_stream b h.global_symbols)
    (λ h. symbols_in_same a b same h.global_symbols)

string_table_same : (a b : Msf) → SameStreams a b → string_table a ≡ string_table b
unfolding string_table
string_table_same a b same =
    ap (λ info. named_stream names_name info >>= (λ number. stream_of a number >>= string_table_in)) (same.streams 1)
    ∙ bind_same (named_stream names_name (stream_of b 1)) (λ number. stream_of a number >>= string_table_in)
    (λ number. stream_of b number >>= string_table_in)
    (λ number. ap (λ bytes. bytes >>= string_table_in) (same.streams number))

-- what is known of each module of a header's list, with names for code without one
abbrev pub modules_of : Msf → DebugHeader → List ModuleOrFault
modules_of msf front =
    named_modules (length msf.file) (symbol_stream msf front.global_symbols)
    (modules_read msf (module_streams front.modules))

-- the modules of a header, none where that can't be read
abbrev pub modules_by : Msf → Result DebugHeader StreamError → List ModuleOrFault
modules_by msf (Ok front) = modules_of msf front
modules_by msf (Err fault) = []

-- the modules of a file by its header
infos_with : (msf : Msf) (front : Result DebugHeader StreamError)
    → named_modules (length msf.file) (front >>= λ h. symbol_stream msf h.global_symbols)
    (modules_read msf (streams_by front)) ≡ modules_by msf front
unfolding named_modules modules_read
infos_with msf (Ok front) = refl
infos_with msf (Err error) = refl

infos_by : (msf : Msf) → module_infos msf ≡ modules_by msf (debug_header msf)
unfolding module_infos global_symbols streams_of_modules
infos_by msf = infos_with msf (debug_header msf)

-- the bounds by a file's length come to the same as those by another length, for the modules of a header
pub record SameBounds (msf : Msf) (room : ℕ) (front : DebugHeader) : Type 0 where
  pub places : places_within msf (length msf.file) (module_streams front.modules)
      ≡ places_within msf room (module_streams front.modules)
  pub names : modules_of msf front
      ≡ named_modules room (symbol_stream msf front.global_symbols) (modules_read msf (module_streams front.modules))

-- the same for whatever header the debug information has
abbrev pub AllSameBounds : Msf → ℕ → Type 0
AllSameBounds msf room = (front : DebugHeader) → debug_header msf ≡ Ok front → SameBounds msf room front

-- they do so for another file of this length
bounds_by_length : (msf : Msf) (room : ℕ) → length msf.file ≡ room → AllSameBounds msf room
bounds_by_length msf room same front is = record {
  places = ap (λ left. places_within msf left (module_streams front.modules)) same;
  names = ap (λ n. named_modules n (symbol_stream msf front.global_symbols)
      (modules_read msf (module_streams front.modules))) same;
}

-- how many bytes are read of a stream
read_same : (a b : Msf) → SameStreams a b → (number : ℕ) → bytes_read a number ≡ bytes_read b number
read_same a b same number = ap (λ size. unwrap_or (result_ok size) 0) (sizes_same a b same number)

-- where the records of modules stand
places_same : (a b : Msf) → SameStreams a b → (left : ℕ) (places : List ModuleStream)
    → places_within a left places ≡ places_within b left places
places_same a b same left [] = refl
places_same a b same left (place ∷ places) =
    let size : bytes_read a place.stream ≡ bytes_read b place.stream = read_same a b same place.stream in
    ap (λ n. (if place.stream == 65535 then Ok None else (if nat_lt left n then Err TOO_LONG else Ok (Some place)))
    ∷ places_within a
    (if place.stream == 65535 then left else (if nat_lt left n then left else left - n)) places) size
    ∙ ap (λ others. place_within b left place ∷ others) (places_same a b same (left_behind b left place) places)

-- what is known of a module that stands there
there_same : (a b : Msf) → SameStreams a b → (place : Option ModuleStream) → module_there a place ≡ module_there b place
there_same a b same None = refl
there_same a b same (Some place) =
    ap (λ bytes. bytes >>= (λ found. Ok (Some (module_in place found)))) (same.streams place.stream)

module_same : (a b : Msf) → SameStreams a b → (place : PlaceOrFault) → module_of a place ≡ module_of b place
module_same a b same place = bind_same place (module_there a) (module_there b) (there_same a b same)

-- what is known of each module
modules_read_same : (a b : Msf) → SameStreams a b → (places : List ModuleStream)
    → places_within a (length a.file) places ≡ places_within a (length b.file) places
    → modules_read a places ≡ modules_read b places
unfolding modules_read
modules_read_same a b same places within =
    ap (map (module_of a)) (within ∙ places_same a b same (length b.file) places)
    ∙ ap (λ f. map f (places_within b (length b.file) places)) (fun_ext (module_same a b same))

modules_of_same : (a b : Msf) → SameStreams a b → (front : DebugHeader) → SameBounds a (length b.file) front
    → modules_of a front ≡ modules_of b front
modules_of_same a b same front bounds =
    bounds.names
    ∙ ap (λ globals. named_modules (length b.file) globals (modules_read a (module_streams front.modules)))
    (symbols_in_same a b same front.global_symbols)
    ∙ ap (named_modules (length b.file) (symbol_stream b front.global_symbols))
    (modules_read_same a b same (module_streams front.modules) bounds.places)

modules_by_same : (a b : Msf) → SameStreams a b → AllSameBounds a (length b.file)
    → (front : Result DebugHeader StreamError) → debug_header a ≡ front → modules_by a front ≡ modules_by b front
modules_by_same a b same bounds (Ok front) is = modules_of_same a b same front (bounds front is)
modules_by_same a b same bounds (Err error) is = refl

modules_same : (a b : Msf) → SameStreams a b → AllSameBounds a (length b.file) → module_infos a ≡ module_infos b
unfolding module_infos
modules_same a b same bounds =
    infos_by a ∙ modules_by_same a b same bounds (debug_header a) refl ∙ ap (modules_by b) (header_same a b same)
    ∙ sym (infos_by b)

pub identity_same : (a b : Msf) → SameStreams a b → identity a ≡ identity b
unfolding identity debug_build
identity_same a b same =
    ap (λ bytes. option_map (identity_by (option_map build_of (result_ok (bytes >>= header))))
    (option_and_then info_header (result_ok (stream_of a 1)))) (same.streams 3)
    ∙ ap (λ bytes. option_map (identity_by (debug_build b)) (option_and_then info_header (result_ok bytes)))
    (same.streams 1)

-- the types
types_same : (a b : Msf) → SameStreams a b → type_information a ≡ type_information b
unfolding type_information
types_same a b same = ap (λ bytes. bytes >>= types_of) (same.streams 2)

-- the ids
ids_same : (a b : Msf) → SameStreams a b → id_information a ≡ id_information b
unfolding id_information
ids_same a b same =
    ap (λ info. if (features info).ids then ids_in (stream_of a 4) else Ok no_ids) (same.streams 1)
    ∙ ap (λ bytes. if (features (stream_of b 1)).ids then ids_in bytes else Ok no_ids) (same.streams 4)

-- all records
pub records_same : (a b : Msf) → SameStreams a b → AllSameBounds a (length b.file) → records a ≡ records b
records_same a b same bounds =
    let globals : table_of (global_symbols a) ≡ table_of (global_symbols b) =
    ap table_of (global_symbols_same a b same) in
    let parts : (sections a ≡ sections b) = sections_same a b same in
    let addresses : address_map a ≡ address_map b = address_map_same a b same in
    let information : debug_information a ≡ debug_information b = information_same a b same in
    let types : type_information a ≡ type_information b = types_same a b same in
    let ids : id_information a ≡ id_information b = ids_same a b same in
    let texts : string_table a ≡ string_table b = string_table_same a b same in
    let modules : module_infos a ≡ module_infos b = modules_same a b same bounds in
    cc

-- containers that hold the same, without the length of their files
without_room : (a b : Msf) → HoldSame a b → SameStreams a b
without_room a b same = record { sizes = same.sizes; streams = same.streams }

pub held_records : (a b : Msf) → HoldSame a b → records a ≡ records b
held_records a b same = records_same a b (without_room a b same) (bounds_by_length a (length b.file) same.room)

-- what two containers say that hold the same streams
pub ruleset held = (held_records, identity_same)

-- files of one length have the same blocks inside
inside_same : (size : ℕ) (old new numbers : List ℕ) → length old ≡ length new
    → all_inside size old numbers ≡ all_inside size new numbers
inside_same size old new [] room = refl
inside_same size old new (number ∷ numbers) room =
    ap (λ n. if nat_lt n (number * size + size) then false else all_inside size old numbers) room
    ∙ ap (λ t. if nat_lt (length new) (number * size + size) then false else t) (inside_same size old new numbers room)

-- blocks that are the same are so in order
order_same : (size : ℕ) (old new numbers : List ℕ) → All (λ x. block size old x ≡ block size new x) numbers
    → bytes_of_blocks size old numbers ≡ bytes_of_blocks size new numbers
order_same size old new [] same = refl
order_same size old new (number ∷ numbers) same =
    ap (λ bytes. bytes ++ bytes_of_blocks size old numbers) (same 0 number (omega arith))
    ∙ ap (λ rest. block size new number ++ rest)
    (order_same size old new numbers (λ k d below. same (suc k) d (omega (arith, below))))

-- the bytes of a stream whose blocks are the same
stream_same : (size : ℕ) (old new : List ℕ) (count : ℕ) (numbers : List ℕ)
    → all_inside size old numbers ≡ all_inside size new numbers
    → All (λ x. block size old x ≡ block size new x) numbers
    → stream_inside size old count numbers ≡ stream_inside size new count numbers
unfolding stream_inside
stream_same size old new count numbers inside same =
    ap (λ t. if t then Ok (stream size old count numbers) else Err BLOCK_OUTSIDE) inside
    ∙ ap (λ bytes. if all_inside size new numbers then Ok (take count bytes) else Err BLOCK_OUTSIDE)
    (order_same size old new numbers same)

-- two containers have the same directory, and of each block of a stream the same bytes, or both not all of them
pub record SameBlocks (a b : Msf) : Type 0 where
  pub block_size : a.block_size ≡ b.block_size
  pub directory : a.directory ≡ b.directory
  pub sizes : a.sizes ≡ b.sizes
  pub inside : (number size : ℕ) (numbers : List ℕ) → size_of a number ≡ Ok size
      → stream_blocks a number size ≡ Ok numbers
      → all_inside a.block_size a.file numbers ≡ all_inside a.block_size b.file numbers
  pub blocks : (number size : ℕ) (numbers : List ℕ) → size_of a number ≡ Ok size
      → stream_blocks a number size ≡ Ok numbers
      → All (λ x. block a.block_size a.file x ≡ block a.block_size b.file x) numbers

-- the numbers of a stream's blocks
numbers_same : (a b : Msf) → SameBlocks a b → (number size : ℕ)
    → stream_blocks a number size ≡ stream_blocks b number size
unfolding numbers_place
numbers_same a b same number size =
    ap (λ n. listed (div_ceil size n)
    (drop (4 + 4 * length a.sizes + 4 * sum_by (block_count n) (take number a.sizes)) a.directory)) same.block_size
    ∙ ap (λ bytes. listed (div_ceil size b.block_size)
    (drop (4 + 4 * length a.sizes + 4 * sum_by (block_count b.block_size) (take number a.sizes)) bytes)) same.directory
    ∙ ap (λ sizes. listed (div_ceil size b.block_size)
    (drop (4 + 4 * length sizes + 4 * sum_by (block_count b.block_size) (take number sizes)) b.directory)) same.sizes

-- the bytes of a stream, by the numbers of its blocks
by_numbers : (a b : Msf) → SameBlocks a b → (number size : ℕ) → size_of a number ≡ Ok size
    → (numbers : Result (List ℕ) StreamError) → stream_blocks a number size ≡ numbers
    → (numbers >>= stream_inside a.block_size a.file size) ≡ (numbers >>= stream_inside b.block_size b.file size)
by_numbers a b same number size has (Ok numbers) are =
    stream_same a.block_size a.file b.file size numbers (same.inside number size numbers has are)
    (same.blocks number size numbers has are)
    ∙ ap (λ n. stream_inside n b.file size numbers) same.block_size
by_numbers a b same number size has (Err error) are = refl

-- the bytes of a stream, by its size
by_size : (a b : Msf) → SameBlocks a b → (number : ℕ) (size : Result ℕ StreamError) → size_of a number ≡ size
    → (size >>= (λ n. stream_blocks a number n >>= stream_inside a.block_size a.file n))
    ≡ (size >>= (λ n. stream_blocks b number n >>= stream_inside b.block_size b.file n))
by_size a b same number (Ok size) has =
    by_numbers a b same number size has (stream_blocks a number size) refl
    ∙ ap (λ numbers. numbers >>= stream_inside b.block_size b.file size) (numbers_same a b same number size)
by_size a b same number (Err error) has = refl

-- the streams of containers that share their blocks
pub streams_same : (a b : Msf) → SameBlocks a b → (number : ℕ) → stream_of a number ≡ stream_of b number
unfolding stream_of size_of
streams_same a b same number =
    by_size a b same number (size_of a number) refl
    ∙ ap (λ sizes. present (slice_get sizes number)
    >>= (λ n. stream_blocks b number n >>= stream_inside b.block_size b.file n)) same.sizes

-- containers that share their blocks, in files of one length
shared_blocks : (a b : Msf) → ShareBlocks a b → SameBlocks a b
shared_blocks a b same = record {
  block_size = same.block_size;
  directory = same.directory;
  sizes = same.sizes;
  inside = λ number size numbers has are. inside_same a.block_size a.file b.file numbers same.room;
  blocks = same.blocks;
}

pub shared_streams : (a b : Msf) → ShareBlocks a b → HoldSame a b
shared_streams a b same = record {
  room = same.room;
  sizes = same.sizes;
  streams = streams_same a b (shared_blocks a b same);
}

-- what such files say
pub shared_records : (old new : List ℕ) (a b : Msf) → container old ≡ Ok a → container new ≡ Ok b → ShareBlocks a b
    → records_of old ≡ records_of new
shared_records old new a b is are same =
    ap (λ found. found >>= (λ msf. Ok (records msf))) is
    ∙ ap (λ said. Ok said) (held_records a b (shared_streams a b same))
    ∙ sym (ap (λ found. found >>= (λ msf. Ok (records msf))) are)

-- what containers hold and say that share their blocks
pub ruleset shared = (shared_streams, shared_records)
