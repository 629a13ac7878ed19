-- What a container says in a file that is longer than it needs.
use Rattle.std.proofs.Common.{◌≡◌, ◌∙◌, ℕ, suc, ◌+◌, ◌*◌, ◌-◌, ◌≤◌, ◌==◌, Bool, true, false, List, [], ◌∷◌, ◌++◌}
use Rattle.std.proofs.Common.{get_or, length, Option, Some, None, Result, Ok, Err, refl, sym, ap, arith}
use Rattle.std.proofs.lemmas.Grind.{common_steps}
use Rattle.std.proofs.lemmas.List.{length-append}
use Rattle.std.specs.Prelude.{All, nat_lt, nat_le, fold, if◌then◌else◌}
use Rattle.std.specs.Option.{option_or}
use Rattle.pdb_records.specs.Readings.{Read}
use Rattle.pdb_records.specs.declared.error.StreamError.{StreamError}
use Rattle.pdb_records.specs.declared.symbols.Symbol.{Symbol}
use Rattle.pdb_msf.specs.declared.faults.TheConstants.{TOO_LONG}
use Rattle.pdb_msf.specs.Faults.{◌>>=◌}
use Rattle.pdb_msf.specs.Msf.{Msf, container}
use Rattle.pdb_msf.specs.Streams.{all_inside}
use Rattle.pdb_codeview.specs.Places.{place}
use Rattle.pdb_dbi.specs.declared.module_substream.ModuleStream.{ModuleStream}
use Rattle.pdb_dbi.specs.ModuleSubstream.{module_streams}
use Rattle.pdb_container.specs.DebugRecords.{symbol_stream}
use Rattle.pdb_container.specs.FunctionsByStart.{FunctionStart, any_function}
use Rattle.pdb_container.specs.ModulePlaces.{ModuleOrFault, bytes_read, modules_read, places_within}
use Rattle.pdb_container.specs.PdbFile.{records, records_of}
use Rattle.pdb_container.specs.UnnamedCode.{CodeOfModule, code_from, named, named_modules, renamed_symbol, renamed_symbols}
use Rattle.pdb_file_laws.specs.SameStreams.{IsLongEnough, IsWhole, SameStreams, module_bytes, name_bytes, name_length}
use Rattle.pdb_file_laws.proofs.MoreBytesLemmas.{bytes_stay, inside_stays, stays_container, with_file}
use Rattle.pdb_file_laws.proofs.SameStreamLemmas.{AllSameBounds, SameBlocks, records_same, streams_same}

-- a number is below none that isn't greater
not_below : (x y : ℕ) → y ≤ x → nat_lt x y ≡ false
not_below x y enough = grind (arith, common_steps, enough)

as_much : (x y : ℕ) → x ≤ y → nat_le x y ≡ true
as_much x y enough = grind (arith, common_steps, enough)

-- where a module stands in front of others that find room
place_more : (msf : Msf) (left more n : ℕ) (none : Bool) (place : ModuleStream) (places : List ModuleStream)
    → (if none then 0 else n) + module_bytes msf places ≤ left → left ≤ more
    → ((x y : ℕ) → module_bytes msf places ≤ x → x ≤ y → places_within msf x places ≡ places_within msf y places)
    → (if none then Ok None else (if nat_lt left n then Err TOO_LONG else Ok (Some place)))
    ∷ places_within msf (if none then left else (if nat_lt left n then left else left - n)) places
    ≡ (if none then Ok None else (if nat_lt more n then Err TOO_LONG else Ok (Some place)))
    ∷ places_within msf (if none then more else (if nat_lt more n then more else more - n)) places
place_more msf left more n true place places enough longer rest =
    ap (λ others. Ok None ∷ others) (rest left more (omega arith) longer)
place_more msf left more n false place places enough longer rest =
    ap (λ t. (if t then Err TOO_LONG else Ok (Some place)) ∷ places_within msf (if t then left else left - n) places)
    (not_below left n (omega arith))
    ∙ ap (λ others. Ok (Some place) ∷ others) (rest (left - n) (more - n) (omega arith) (omega arith))
    ∙ sym (ap (λ t. (if t then Err TOO_LONG else Ok (Some place))
    ∷ places_within msf (if t then more else more - n) places) (not_below more n (omega arith)))

-- modules stand where they do, however many bytes more than all of theirs may be read
places_more : (msf : Msf) (places : List ModuleStream) (left more : ℕ) → module_bytes msf places ≤ left → left ≤ more
    → places_within msf left places ≡ places_within msf more places
places_more msf [] left more enough longer = refl
places_more msf (place ∷ places) left more enough longer =
    place_more msf left more (bytes_read msf place.stream) (place.stream == 65535) place places enough longer
    (places_more msf places)

-- what names the code in front does, where the function that it may have finds room, and what the other code does
abbrev names_from : {N : Type 0} → (FunctionStart → N) → (ℕ → List N) → Option FunctionStart → ℕ → List N
names_from {N = N} first others found room = elim found as (λ found. List N) [
  | None ↦ others room
  | Some function ↦
      if nat_le (length function.name) room then first function ∷ others (room - length function.name) else others room
]

names_more : {N : Type 0} (first : FunctionStart → N) (others : ℕ → List N) (found : Option FunctionStart)
    (bytes room more : ℕ) → name_length found + bytes ≤ room → room ≤ more
    → ((x y : ℕ) → bytes ≤ x → x ≤ y → others x ≡ others y)
    → names_from first others found room ≡ names_from first others found more
names_more first others None bytes room more enough longer same = same room more (omega arith) longer
names_more first others (Some function) bytes room more enough longer same =
    let n : ℕ = length function.name in
    ap (λ t. if t then first function ∷ others (room - n) else others room) (as_much n room (omega arith))
    ∙ ap (λ rest. first function ∷ rest) (same (room - n) (more - n) (omega arith) (omega arith))
    ∙ sym (ap (λ t. if t then first function ∷ others (more - n) else others more) (as_much n more (omega arith)))

-- code is named as it is, however many bytes more than all of theirs names may take
namings_more : (function_there : ℕ → Option FunctionStart) (codes : List CodeOfModule) (room more : ℕ)
    → name_bytes function_there codes ≤ room → room ≤ more
    → renamed_symbols function_there room codes ≡ renamed_symbols function_there more codes
namings_more function_there [] room more enough longer = refl
namings_more function_there (code ∷ codes) room more enough longer =
    names_more (renamed_symbol code) (λ n. renamed_symbols function_there n codes)
    (option_or code.own (function_there (place code.code.parent_offset))) (name_bytes function_there codes) room more
    enough longer (namings_more function_there codes)

named_more : (globals : Result (Read Symbol) StreamError) (modules : List ModuleOrFault) (room more : ℕ)
    → name_bytes (any_function modules globals) (code_from 0 modules) ≤ room → room ≤ more
    → named_modules room globals modules ≡ named_modules more globals modules
unfolding named_modules
named_more globals modules room more enough longer =
    ap (fold named modules)
    (namings_more (any_function modules globals) (code_from 0 modules) room more enough longer)

-- the bounds by the length of a file that has room come to the same as those by a greater length
bounds_by_room : (msf : Msf) (more : ℕ) → IsLongEnough msf → length msf.file ≤ more → AllSameBounds msf more
bounds_by_room msf more enough longer front is =
    let room = enough front is in
    record {
      places = places_more msf (module_streams front.modules) (length msf.file) more room.modules longer;
      names = named_more (symbol_stream msf front.global_symbols) (modules_read msf (module_streams front.modules))
          (length msf.file) more room.names longer;
    }

pub longer_records : (a b : Msf) → SameStreams a b → length a.file ≤ length b.file → IsLongEnough a
    → records a ≡ records b
longer_records a b same longer enough = records_same a b same (bounds_by_room a (length b.file) enough longer)

-- a file that has the whole of each block
all_in : (size : ℕ) (file numbers : List ℕ) → All (λ x. x * size + size ≤ length file) numbers
    → all_inside size file numbers ≡ true
all_in size file [] inside = refl
all_in size file (number ∷ numbers) inside =
    ap (λ t. if t then false else all_inside size file numbers)
    (not_below (length file) (number * size + size) (inside 0 number (omega arith)))
    ∙ all_in size file numbers (λ k d below. inside (suc k) d (omega (arith, below)))

-- the blocks of a file that has them whole are the same with more bytes after them
blocks_stay : (msf : Msf) (more : List ℕ) → IsWhole msf → SameBlocks msf (with_file (msf.file ++ more) msf)
blocks_stay msf more whole = record {
  block_size = refl;
  directory = refl;
  sizes = refl;
  inside = λ number size numbers has are.
      let here = all_in msf.block_size msf.file numbers (whole number size numbers has are) in
      here ∙ sym (inside_stays msf.block_size msf.file more numbers here);
  blocks = λ number size numbers has are k d below.
      sym (bytes_stay (get_or numbers k d * msf.block_size) msf.block_size msf.file more
      (whole number size numbers has are k d below));
}

-- a file with more bytes after it is longer
longer_with : (bytes more : List ℕ) → length bytes ≤ length (bytes ++ more)
longer_with bytes more =
    let all : length (bytes ++ more) ≡ length bytes + length more = length-append bytes more in omega (arith, all)

-- what a file says with more bytes after it
pub records_stay : (file more : List ℕ) (msf : Msf) → container file ≡ Ok msf → IsWhole msf → IsLongEnough msf
    → records_of (file ++ more) ≡ records_of file
records_stay file more msf is whole enough =
    let longer : Msf = with_file (msf.file ++ more) msf in
    let same : SameStreams msf longer =
    record { sizes = refl; streams = streams_same msf longer (blocks_stay msf more whole) } in
    ap (λ found. found >>= (λ m. Ok (records m))) (stays_container file more msf is)
    ∙ ap (λ said. Ok said) (sym (longer_records msf longer same (longer_with msf.file more) enough))
    ∙ sym (ap (λ found. found >>= (λ m. Ok (records m))) is)

-- what containers and files say that are longer than others
pub ruleset longer = (longer_records, records_stay)
