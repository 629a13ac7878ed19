-- A container that has more bytes after it.
use Rattle.std.proofs.Common.{◌≡◌, ◌∙◌, ℕ, ◌+◌, ◌*◌, ◌-◌, ◌≤◌, Bool, true, false, cond, not, nat_lt}
use Rattle.std.proofs.Common.{List, [], ◌∷◌, ◌++◌, take, drop, length, Result, Ok, Err, refl, sym, ap, arith}
use Rattle.std.proofs.lemmas.Grind.{common_steps}
use Rattle.std.proofs.lemmas.List.{length-append, length-drop, take-append-le, drop-append-le}
use Rattle.std.specs.Prelude.{if◌then◌else◌}
use Rattle.std.specs.Int.{div_ceil}
use Rattle.pdb_records.specs.declared.error.StreamError.{StreamError}
use Rattle.pdb_msf.proofs.NumberLemmas.{numbers_of_taken}
use Rattle.pdb_msf.specs.declared.container_error.ContainerError.{ContainerError}
use Rattle.pdb_msf.specs.declared.container_error.ContainerError.TheVariants as fault
use Rattle.pdb_msf.specs.declared.superblock.Superblock.{Superblock}
use Rattle.pdb_msf.specs.declared.faults.TheConstants.{BLOCK_OUTSIDE, CUT}
use Rattle.pdb_msf.specs.Directory.{block_map, directory, directory_blocks, map_blocks, sizes_in, total_size}
use Rattle.pdb_msf.specs.Faults.{◌>>=◌, cut_short}
use Rattle.pdb_msf.specs.Msf.{Msf, container}
use Rattle.pdb_msf.specs.NumberLists.{listed, number, numbers}
use Rattle.pdb_msf.specs.Streams.{all_inside, block, bytes_of_blocks, stream, stream_inside}
use Rattle.pdb_msf.specs.Superblock.{is_msf, superblock}

-- where two meanings have a value, the first has one, and the second over it
after : {A B E : Type 0} (first : Result A E) (next : A → Result B E) (value : B)
    → (first >>= next) ≡ Ok value → (x : A) × (first ≡ Ok x) × (next x ≡ Ok value)
after (Ok x) next value is = (x, refl, is)
after (Err error) next value is = cc

-- what is chosen after a fault is the value where there is one
behind_fault : {A E : Type 0} (refused : Bool) (error : E) (next : Result A E) (value : A)
    → cond refused (Err error) next ≡ Ok value → (refused ≡ false) × (next ≡ Ok value)
behind_fault true error next value is = cc
behind_fault false error next value is = (refl, is)

before_fault : {A E : Type 0} (passes : Bool) (error : E) (next : Result A E) (value : A)
    → cond passes next (Err error) ≡ Ok value → (passes ≡ true) × (next ≡ Ok value)
before_fault true error next value is = (refl, is)
before_fault false error next value is = cc

-- a fault in the directory has no value
before_cut : {A : Type 0} (read : Result A StreamError) (value : A) → cut_short read ≡ Ok value → read ≡ Ok value
before_cut (Ok x) value is = cc
before_cut (Err error) value is = cc

-- where there are enough bytes there are with more after them
has : (bytes : List ℕ) (n : ℕ) → nat_lt (length bytes) n ≡ false → n ≤ length bytes
has bytes n is = grind (arith, common_steps, is)

still_has : (bytes more : List ℕ) (n : ℕ) → nat_lt (length bytes) n ≡ false
    → nat_lt (length (bytes ++ more)) n ≡ false
still_has bytes more n is =
    let all : length (bytes ++ more) ≡ length bytes + length more = length-append bytes more in
    grind (arith, common_steps, is, all)

-- so many bytes at a place stay
pub bytes_stay : (place n : ℕ) (bytes more : List ℕ) → place + n ≤ length bytes
    → take n (drop place (bytes ++ more)) ≡ take n (drop place bytes)
bytes_stay place n bytes more enough =
    let behind : length (drop place bytes) ≡ length bytes - place = length-drop place bytes in
    ap (take n) (drop-append-le place bytes more (omega (arith, enough)))
    ∙ take-append-le n (drop place bytes) more (omega (arith, enough, behind))

-- the superblock stays
superblock_stays : (bytes more : List ℕ) (front : Superblock) → superblock bytes ≡ Ok front
    → superblock (bytes ++ more) ≡ Ok front
unfolding superblock is_msf
superblock_stays bytes more front is =
    let named = behind_fault (not (is_msf bytes)) _ _ front is in
    let whole = behind_fault (nat_lt (length bytes) 56) _ _ front named.1 in
    let enough : 56 ≤ length bytes = has bytes 56 whole.0 in
    let first : take 32 (bytes ++ more) ≡ take 32 bytes = bytes_stay 0 32 bytes more (omega (arith, enough)) in
    let second : take 4 (drop 32 (bytes ++ more)) ≡ take 4 (drop 32 bytes) =
    bytes_stay 32 4 bytes more (omega (arith, enough)) in
    let third : take 4 (drop 44 (bytes ++ more)) ≡ take 4 (drop 44 bytes) =
    bytes_stay 44 4 bytes more (omega (arith, enough)) in
    let longer : nat_lt (length (bytes ++ more)) 56 ≡ false = still_has bytes more 56 whole.0 in
    let short : nat_lt (length bytes) 56 ≡ false = whole.0 in
    cc

-- the numbers of a list stay
listed_stays : (count : ℕ) (bytes more found : List ℕ) → listed count bytes ≡ Ok found
    → listed count (bytes ++ more) ≡ Ok found
unfolding listed
listed_stays count bytes more found is =
    let read = behind_fault (nat_lt (length bytes) (4 * count)) _ (Ok (numbers count bytes)) found is in
    let enough : 4 * count ≤ length bytes = has bytes (4 * count) read.0 in
    ap (λ t. if t then Err CUT else Ok (numbers count (bytes ++ more))) (still_has bytes more (4 * count) read.0)
    ∙ ap Ok (sym (numbers_of_taken count (bytes ++ more))
    ∙ ap (numbers count) (take-append-le (4 * count) bytes more enough)
    ∙ numbers_of_taken count bytes)
    ∙ read.1

-- a block that lies inside, in front of others
here_inside : (outside others : Bool) → (if outside then false else others) ≡ true
    → (outside ≡ false) × (others ≡ true)
here_inside true others is = cc
here_inside false others is = (refl, is)

-- blocks of a file stay
pub inside_stays : (size : ℕ) (file more blocks : List ℕ) → all_inside size file blocks ≡ true
    → all_inside size (file ++ more) blocks ≡ true
inside_stays size file more [] inside = refl
inside_stays size file more (number ∷ blocks) inside =
    let here = here_inside (nat_lt (length file) (number * size + size)) (all_inside size file blocks) inside in
    ap (λ t. if t then false else all_inside size (file ++ more) blocks)
    (still_has file more (number * size + size) here.0)
    ∙ inside_stays size file more blocks here.1

order_stays : (size : ℕ) (file more blocks : List ℕ) → all_inside size file blocks ≡ true
    → bytes_of_blocks size (file ++ more) blocks ≡ bytes_of_blocks size file blocks
order_stays size file more [] inside = refl
order_stays size file more (number ∷ blocks) inside =
    let here = here_inside (nat_lt (length file) (number * size + size)) (all_inside size file blocks) inside in
    ap (λ bytes. bytes ++ bytes_of_blocks size (file ++ more) blocks)
    (bytes_stay (number * size) size file more (has file (number * size + size) here.0))
    ∙ ap (λ rest. block size file number ++ rest) (order_stays size file more blocks here.1)

stream_stays : (size : ℕ) (file more : List ℕ) (count : ℕ) (blocks bytes : List ℕ)
    → stream_inside size file count blocks ≡ Ok bytes → stream_inside size (file ++ more) count blocks ≡ Ok bytes
unfolding stream_inside
stream_stays size file more count blocks bytes is =
    let read = before_fault (all_inside size file blocks) _ (Ok (stream size file count blocks)) bytes is in
    ap (λ t. if t then Ok (stream size (file ++ more) count blocks) else Err BLOCK_OUTSIDE)
    (inside_stays size file more blocks read.0)
    ∙ ap (λ ordered. Ok (take count ordered)) (order_stays size file more blocks read.0)
    ∙ read.1

-- the block map stays
map_stays : (front : Superblock) (file more found : List ℕ) → 52 ≤ length file → block_map front file ≡ Ok found
    → block_map front (file ++ more) ≡ Ok found
unfolding block_map
map_stays front file more found enough is =
    let count : ℕ = directory_blocks front in
    let first = after (map_blocks front file) _ found is in
    let second = after (stream_inside front.block_size file (4 * count) first.0) _ found first.2 in
    let there : map_blocks front (file ++ more) ≡ Ok first.0 =
    ap (listed (div_ceil (4 * count) front.block_size)) (drop-append-le 52 file more enough)
    ∙ listed_stays (div_ceil (4 * count) front.block_size) (drop 52 file) more first.0 first.1 in
    ap (λ blocks. blocks >>= (λ b. stream_inside front.block_size (file ++ more) (4 * count) b >>= listed count)) there
    ∙ ap (λ bytes. bytes >>= listed count)
    (stream_stays front.block_size file more (4 * count) first.0 second.0 second.1)
    ∙ second.2

-- the directory stays
directory_stays : (front : Superblock) (file more found : List ℕ) → 52 ≤ length file → directory front file ≡ Ok found
    → directory front (file ++ more) ≡ Ok found
unfolding directory
directory_stays front file more found enough is =
    let first = behind_fault (nat_lt (length file) front.directory_size) _ _ found is in
    let second = after (block_map front file) _ found first.1 in
    ap (λ t. if t then Err CUT else (block_map front (file ++ more)
    >>= stream_inside front.block_size (file ++ more) front.directory_size))
    (still_has file more front.directory_size first.0)
    ∙ ap (λ blocks. blocks >>= stream_inside front.block_size (file ++ more) front.directory_size)
    (map_stays front file more second.0 enough second.1)
    ∙ stream_stays front.block_size file more front.directory_size second.0 found second.2

-- a file that has a superblock has all bytes of it
has_front : (file : List ℕ) (front : Superblock) → superblock file ≡ Ok front → 52 ≤ length file
unfolding superblock
has_front file front is =
    let named = behind_fault (not (is_msf file)) _ _ front is in
    let whole = behind_fault (nat_lt (length file) 56) _ _ front named.1 in
    let all : 56 ≤ length file = has file 56 whole.0 in
    omega (arith, all)

-- the bytes of a container that may be there
abbrev file_of : Result Msf ContainerError → List ℕ
file_of (Ok msf) = msf.file
file_of (Err error) = []

-- the container that has the same directory in this file
abbrev pub with_file : List ℕ → Msf → Msf
with_file file msf =
    record { file = file; block_size = msf.block_size; directory = msf.directory; sizes = msf.sizes }

-- a container is of its file
pub its_file : (file : List ℕ) (msf : Msf) → container file ≡ Ok msf → msf.file ≡ file
unfolding container
its_file file msf is =
    let first = after (superblock file) _ msf is in
    let second = after (cut_short (directory first.0 file)) _ msf first.2 in
    let third = after (cut_short (sizes_in second.0)) _ msf second.2 in
    let fourth = behind_fault (nat_lt (length file) (total_size third.0)) _ _ msf third.2 in
    ap file_of (sym fourth.1)

-- a container stays, with the bytes after it
container_stays : (file more : List ℕ) (msf : Msf) → container file ≡ Ok msf
    → container (file ++ more) ≡ Ok (with_file (file ++ more) msf)
unfolding container
container_stays file more msf is =
    let all : List ℕ = file ++ more in
    let first = after (superblock file) _ msf is in
    let second = after (cut_short (directory first.0 file)) _ msf first.2 in
    let third = after (cut_short (sizes_in second.0)) _ msf second.2 in
    let fourth = behind_fault (nat_lt (length file) (total_size third.0)) _ _ msf third.2 in
    let enough : 52 ≤ length file = has_front file first.0 first.1 in
    let listing : cut_short (directory first.0 all) ≡ Ok second.0 =
    ap cut_short (directory_stays first.0 file more second.0 enough
    (before_cut (directory first.0 file) second.0 second.1)) in
    ap (λ found. found >>= (λ front. cut_short (directory front all) >>= (λ bytes.
    cut_short (sizes_in bytes) >>= (λ sizes. if nat_lt (length all) (total_size sizes) then Err fault.StreamsTooLong
    else Ok (record { file = all; block_size = front.block_size; directory = bytes; sizes = sizes })))))
    (superblock_stays file more first.0 first.1)
    ∙ ap (λ found. found >>= (λ bytes.
    cut_short (sizes_in bytes) >>= (λ sizes. if nat_lt (length all) (total_size sizes) then Err fault.StreamsTooLong
    else Ok (record { file = all; block_size = first.0.block_size; directory = bytes; sizes = sizes })))) listing
    ∙ ap (λ found. found >>= (λ sizes. if nat_lt (length all) (total_size sizes) then Err fault.StreamsTooLong
    else Ok (record { file = all; block_size = first.0.block_size; directory = second.0; sizes = sizes }))) third.1
    ∙ ap (λ t. if t then Err fault.StreamsTooLong
    else Ok (record { file = all; block_size = first.0.block_size; directory = second.0; sizes = third.0 }))
    (still_has file more (total_size third.0) fourth.0)
    ∙ ap (λ found. found >>= (λ m. Ok (with_file all m))) fourth.1

pub stays_container : (file more : List ℕ) (msf : Msf) → container file ≡ Ok msf
    → container (file ++ more) ≡ Ok (with_file (msf.file ++ more) msf)
stays_container file more msf is =
    container_stays file more msf is
    ∙ ap (λ bytes. Ok (with_file (bytes ++ more) msf)) (sym (its_file file msf is))
