-- A stream that is read has as many bytes as the directory says.
use Rattle.std.proofs.Common.{◌≡◌, ◌∙◌, ℕ, ◌*◌, ◌<◌, ◌≤◌, true, List, [], ◌∷◌}
use Rattle.std.proofs.Common.{drop, length, Result, Ok, Err, refl, sym, subst, ap, arith}
use Rattle.std.proofs.lemmas.Grind.{common_steps, div_ceil_times}
use Rattle.std.specs.Int.{div_ceil}
use Rattle.pdb_records.specs.declared.error.StreamError.{StreamError}
use Rattle.pdb_msf.proofs.NumberLemmas.{number_count}
use Rattle.pdb_msf.specs.Faults.{◌>>=◌}
use Rattle.pdb_msf.specs.Msf.{Msf, numbers_place, size_of, stream_blocks, stream_of}
use Rattle.pdb_msf.specs.NumberLists.{listed}
use Rattle.pdb_msf.specs.Streams.{all_inside, bytes_of_blocks, stream_inside}

-- where two meanings have a value, the first has one, and the second over it
after : {A B : Type 0} (first : Result A StreamError) (next : A → Result B StreamError) (value : B)
    → (first >>= next) ≡ Ok value → (x : A) × (first ≡ Ok x) × (next x ≡ Ok value)
after (Ok x) next value is = (x, refl, is)
after (Err error) next value is = cc

-- so many blocks that lie in the file have so many bytes
pub length_in_order : (size : ℕ) (file blocks : List ℕ) → all_inside size file blocks ≡ true
    → length (bytes_of_blocks size file blocks) ≡ length blocks * size
length_in_order size file [] inside = grind (arith, common_steps)
length_in_order size file (number ∷ blocks) inside =
    let others : all_inside size file blocks ≡ true → length (bytes_of_blocks size file blocks) ≡ length blocks * size
    = length_in_order size file blocks in
    grind (arith, common_steps)

-- as many numbers are listed as were asked for
listed_count : (count : ℕ) (bytes found : List ℕ) → listed count bytes ≡ Ok found → length found ≡ count
unfolding listed
listed_count count bytes found is = grind (arith, common_steps, number_count)

-- a stream has its size, if its blocks have as many bytes
inside_size : (size : ℕ) (file : List ℕ) (stream_length : ℕ) (blocks bytes : List ℕ)
    → stream_length ≤ length blocks * size → stream_inside size file stream_length blocks ≡ Ok bytes
    → length bytes ≡ stream_length
unfolding stream_inside
inside_size size file stream_length blocks bytes enough is = grind (arith, common_steps, length_in_order)

-- a stream that is read has as many bytes as the directory says
pub stream_size : (msf : Msf) (number : ℕ) (bytes : List ℕ) → 0 < msf.block_size
    → stream_of msf number ≡ Ok bytes → size_of msf number ≡ Ok (length bytes)
unfolding stream_of
stream_size msf number bytes some is =
    let sized : (size : ℕ) × (size_of msf number ≡ Ok size)
    × ((stream_blocks msf number size >>= λ blocks. stream_inside msf.block_size msf.file size blocks) ≡ Ok bytes)
    = after (size_of msf number) _ bytes is in
    let size : ℕ = sized.0 in
    let found : (blocks : List ℕ) × (stream_blocks msf number size ≡ Ok blocks)
    × (stream_inside msf.block_size msf.file size blocks ≡ Ok bytes)
    = after (stream_blocks msf number size) _ bytes sized.2 in
    let count : length found.0 ≡ div_ceil size msf.block_size
    = listed_count (div_ceil size msf.block_size) (drop (numbers_place msf number) msf.directory) found.0 found.1 in
    let enough : size ≤ length found.0 * msf.block_size
    = subst (λ n. size ≤ n * msf.block_size) (sym count) (div_ceil_times size msf.block_size some).0 in
    sized.1 ∙ ap Ok (sym (inside_size msf.block_size msf.file size found.0 bytes enough found.2))

-- as many blocks as a stream of this size has hold its bytes
pub block_bounds : (size block_size count : ℕ) → 0 < block_size → count ≡ div_ceil size block_size
    → size ≤ count * block_size
block_bounds size block_size count some is =
    subst (λ n. size ≤ n * block_size) (sym is) (div_ceil_times size block_size some).0
