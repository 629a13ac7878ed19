-- Ranges of a stream, by the blocks that they stand in.
use Rattle.std.proofs.Common.{◌≡◌, ◌∙◌, ℕ, zero, suc, ◌+◌, ◌-◌, ◌*◌, ◌/◌, ◌%◌, ◌==◌, ◌<◌, ◌≤◌, List, []}
use Rattle.std.proofs.Common.{◌∷◌, ◌++◌, take, drop}
use Rattle.std.proofs.Common.{length, get_or, min, true, false, Bool, cond, Option, Some, None, IfSome}
use Rattle.std.proofs.Common.{refl, sym, ap, arith, add-one, length-drop, inl, inr}
use Rattle.std.proofs.Math.Seq.{drop-append-add, take-append-add}
use Rattle.std.proofs.lemmas.Bool.{cases_lt, eqb-true}
use Rattle.std.proofs.lemmas.Grind.{common_steps, div_ceil_times}
use Rattle.std.proofs.lemmas.List.{drop-append-le, drop-drop, drop-take, length-take, take-append-le, take-take}
use Rattle.std.proofs.lemmas.List.{take_all, take_at}
use Rattle.std.proofs.lemmas.Nat.{div_below}
use Rattle.std.specs.Int.{div_ceil}
use Rattle.pdb_msf.proofs.ExcerptLemmas.{first_inside}
use Rattle.pdb_msf.proofs.KnownLemmas.{both_hold}
use Rattle.pdb_msf.proofs.SizeLemmas.{length_in_order}
use Rattle.pdb_msf.specs.StreamBlocks.{BlockList, said_in, stream_in}
use Rattle.pdb_msf.specs.Streams.{all_inside, block, bytes_of_blocks}

-- a block that lies in the file has its size
block_length : (size number : ℕ) (file : List ℕ) → number * size + size ≤ length file
    → length (block size file number) ≡ size
block_length size number file inside = simp (length-take, length-drop) (omega arith)

-- the bytes of the first blocks, which lie in the file, are as many of all bytes
first_blocks : (count size : ℕ) (file blocks : List ℕ) → all_inside size file blocks ≡ true
    → bytes_of_blocks size file (take count blocks) ≡ take (count * size) (bytes_of_blocks size file blocks)
first_blocks zero size file blocks inside = grind (arith, common_steps)
first_blocks (suc count) size file [] inside = sym (take_all (suc count * size) [] (omega arith))
first_blocks (suc count) size file (number ∷ blocks) inside =
    let both = first_inside size number file blocks inside in
    let long = block_length size number file both.0 in
    let next : suc count * size ≡ length (block size file number) + count * size = rw long (grind arith) in
    rw (next, take-append-add, first_blocks count size file blocks both.1) refl

-- so many bytes of some that were taken are at most these
taken_both : (count long : ℕ) (bytes : List ℕ) → take count (take long bytes) ≡ take (min count long) bytes
taken_both count long bytes =
    elim (cases_lt long count) [
      | inl above ↦
          let least : min count long ≡ long = omega arith in
          rw least (take_all count (take long bytes) (simp length-take (omega arith)))
      | inr few ↦
          let least : min count long ≡ count = omega arith in
          rw least (take-take count long bytes few)
    ]

-- the bytes of a block behind a place in it, and of so many blocks behind it, have so many from the place on
joined : (count long size more : ℕ) (file bytes blocks : List ℕ) → all_inside size file blocks ≡ true
    → long ≤ length bytes → count ≤ min count long + more * size
    → take count (take (min count long) bytes ++ bytes_of_blocks size file (take more blocks))
    ≡ take count (take long bytes ++ bytes_of_blocks size file blocks)
joined count long size more file bytes blocks inside there enough =
    let front : length (take long bytes) ≡ long = simp length-take (omega arith) in
    let rest = bytes_of_blocks size file blocks in
    elim (cases_lt long count) [
      | inl above ↦
          let least : min count long ≡ long = omega arith in
          let reach : count ≤ length (take long bytes) + more * size = rw front (omega arith) in
          rw (least, first_blocks more size file blocks inside, ← take-append-add (take long bytes) rest (more * size))
          (take-take count (length (take long bytes) + more * size) (take long bytes ++ rest) reach)
      | inr few ↦
          let least : min count long ≡ count = omega arith in
          let all : length (take count bytes) ≡ count = simp length-take (omega arith) in
          rw (least, take_at (take count bytes) (bytes_of_blocks size file (take more blocks)) count all)
          (sym (take-append-le count (take long bytes) rest (omega arith) ∙ take-take count long bytes few))
    ]

-- what stands behind a place in a block
behind_place : (size skipped number : ℕ) (file : List ℕ) → skipped < size
    → drop skipped (block size file number) ≡ take (size - skipped) (drop (number * size + skipped) file)
behind_place size skipped number file within =
    let parts : size ≡ skipped + (size - skipped) = omega arith in
    ap (λ n. drop skipped (take n (drop (number * size) file))) parts
    ∙ simp (drop-take, drop-drop)

-- the bytes behind a place in the block at a position, and of so many blocks behind it, have those from the place on
from_place : (position size skipped count more : ℕ) (file blocks : List ℕ) → all_inside size file blocks ≡ true
    → skipped < size → position < length blocks → count ≤ min count (size - skipped) + more * size
    → take count (take (min count (size - skipped)) (drop (get_or blocks position 0 * size + skipped) file)
    ++ bytes_of_blocks size file (take more (drop (suc position) blocks)))
    ≡ take count (drop (position * size + skipped) (bytes_of_blocks size file blocks))
from_place position size skipped count more file [] inside within there enough = absurd (omega arith)
from_place zero size skipped count more file (number ∷ blocks) inside within there enough =
    let both = first_inside size number file blocks inside in
    let long = block_length size number file both.0 in
    let none : zero * size + skipped ≡ skipped = omega arith in
    let left : size - skipped ≤ length (drop (number * size + skipped) file) = simp length-drop (omega arith) in
    rw (
      none,
      drop-append-le skipped (block size file number) (bytes_of_blocks size file blocks) (omega arith),
      behind_place size skipped number file within,
    )
    (joined count (size - skipped) size more file (drop (number * size + skipped) file) blocks both.1 left enough)
from_place (suc position) size skipped count more file (number ∷ blocks) inside within there enough =
    let both = first_inside size number file blocks inside in
    let long = block_length size number file both.0 in
    let next : suc position * size + skipped ≡ length (block size file number) + (position * size + skipped)
    = rw long (grind arith) in
    rw (next, drop-append-add)
    (from_place position size skipped count more file blocks both.1 within (omega arith) enough)

-- a range of a stream in a file, where it was read block by block
range_in : (file : List ℕ) (blocks : BlockList) (place wanted count run more : ℕ) (bytes : List ℕ)
    → all_inside blocks.block_size file blocks.numbers ≡ true
    → 0 < blocks.block_size → blocks.size ≤ length blocks.numbers * blocks.block_size
    → count ≡ min wanted (blocks.size - place) → 0 < count
    → run ≡ min count (blocks.block_size - place % blocks.block_size)
    → more ≡ div_ceil (count - run) blocks.block_size
    → bytes ≡ take run (drop (get_or blocks.numbers (place / blocks.block_size) 0 * blocks.block_size
    + place % blocks.block_size) file)
    ++ bytes_of_blocks blocks.block_size file (take more (drop (place / blocks.block_size + 1) blocks.numbers))
    → take count bytes ≡ take wanted (drop place (stream_in file blocks))
range_in file blocks place wanted count run more bytes inside some enough counted any run_is more_is read =
    let size : ℕ = blocks.block_size in
    let whole : List ℕ = bytes_of_blocks size file blocks.numbers in
    let position : place / size < length blocks.numbers
    = div_below place size (length blocks.numbers) some (omega arith) in
    let within : place % size < size = grind (arith, common_steps) in
    let at : place / size * size + place % size ≡ place = grind (arith, common_steps) in
    let reach : count - run ≤ more * size = rw more_is (div_ceil_times (count - run) size some).0 in
    let reaches : count ≤ min count (size - place % size) + more * size = omega arith in
    let parts : blocks.size ≡ place + (blocks.size - place) = omega arith in
    rw (read, run_is, add-one)
    (from_place (place / size) size (place % size) count more file blocks.numbers inside within position reaches)
    ∙ ap (λ n. take count (drop n whole)) at ∙ ap (λ n. take n (drop place whole)) counted
    ∙ sym (ap (λ n. take wanted (drop place (take n whole))) parts
    ∙ ap (take wanted) (drop-take place (blocks.size - place) whole)
    ∙ taken_both wanted (blocks.size - place) (drop place whole))

-- what holds of a stream in a file of this length, where the source says the file, holds of it where it says the stream
if_same : {A : Type 0} (same : Bool) (value : A) (holds : A → Type 0) → (same ≡ true → holds value)
    → IfSome (cond same (Some value) None) holds
if_same true value holds is = is refl
if_same false value holds is = tt

pub from_file : (known : Option (List ℕ)) (blocks : BlockList) (holds : List ℕ → Type 0)
    → IfSome known (λ file. length file ≡ blocks.file_length → holds (stream_in file blocks))
    → IfSome (said_in known blocks) holds
from_file None blocks holds is = tt
from_file (Some file) blocks holds is =
    if_same (length file == blocks.file_length) (stream_in file blocks) holds
    (λ same. is (eqb-true (length file) blocks.file_length same))

-- a range of a stream, where it was read block by block
pub range_of : (known here : Option (List ℕ)) (blocks : BlockList) (place wanted count start run more : ℕ)
    (numbers part empty one two three : List ℕ)
    → ((file : List ℕ) → length file ≡ blocks.file_length → all_inside blocks.block_size file blocks.numbers ≡ true)
    → 0 < blocks.block_size → blocks.size ≤ length blocks.numbers * blocks.block_size → numbers ≡ blocks.numbers
    → part ≡ take more (drop (place / blocks.block_size + 1) numbers)
    → count ≡ min wanted (blocks.size - place) → 0 < count
    → start ≡ get_or numbers (place / blocks.block_size) 0 * blocks.block_size
    → run ≡ min count (blocks.block_size - place % blocks.block_size)
    → more ≡ div_ceil (count - run) blocks.block_size
    → empty ≡ [] → here ≡ known
    → IfSome known (λ file. one ≡ empty ++ take run (drop (start + place % blocks.block_size) file))
    → IfSome here (λ file. two ≡ one ++ bytes_of_blocks blocks.block_size file part)
    → three ≡ take count two
    → IfSome (said_in known blocks) (λ stream. three ≡ take wanted (drop place stream))
range_of known here blocks place wanted count start run more numbers part empty one two three inside some enough same
    part_is counted any at run_is more_is none one_file front behind taken =
    from_file known blocks (λ stream. three ≡ take wanted (drop place stream)) (both_hold _ _ _ known here one_file front
    behind (λ file first both long. taken ∙ range_in file blocks place wanted count run more two (inside file long) some
    enough counted any run_is more_is (rw (both, first, none, at, part_is, same) refl)))

-- a stream has its size, if its blocks, which lie in the file, have as many bytes
pub said_length : (known : Option (List ℕ)) (blocks : BlockList)
    → ((file : List ℕ) → length file ≡ blocks.file_length → all_inside blocks.block_size file blocks.numbers ≡ true)
    → blocks.size ≤ length blocks.numbers * blocks.block_size
    → IfSome (said_in known blocks) (λ stream. length stream ≡ blocks.size)
said_length None blocks inside enough = tt
said_length (Some file) blocks inside enough =
    from_file (Some file) blocks (λ stream. length stream ≡ blocks.size) (λ long.
    let bytes = length_in_order blocks.block_size file blocks.numbers (inside file long) in
    simp length-take (omega arith))
