-- Blocks that are numbered anew in an excerpt of a file.
use Rattle.std.proofs.Common.{◌≡◌, ℕ, zero, suc, ◌+◌, ◌-◌, ◌*◌, ◌^◌, ◌<◌, ◌≤◌, nat_lt, List, [], ◌∷◌}
use Rattle.std.proofs.Common.{◌++◌, take, drop, length, true, false, Ok, Err, refl, ap, ◌∙◌, arith}
use Rattle.std.proofs.Common.{min, length-append, length-drop, mul-le-mul_right}
use Rattle.std.proofs.Math.Seq.{take-add}
use Rattle.std.proofs.lemmas.Grind.{common_steps}
use Rattle.std.proofs.lemmas.Bool.Decides.{nat_tests}
use Rattle.std.proofs.lemmas.List.{drop-drop, drop_at, take_all}
use Rattle.std.specs.Int.{div_ceil}
use Rattle.pdb_records.specs.declared.error.StreamError.{StreamError}
use Rattle.pdb_msf.specs.Msf.{Msf, numbers_place, size_of, stream_of}
use Rattle.byteorder.specs.Endian.{little_bytes}
use Rattle.byteorder.specs.Numbers.{little_from-take, little_number-reads_back}
use Rattle.pdb_msf.specs.declared.faults.TheConstants.{NO_STREAM}
use Rattle.pdb_msf.specs.NumberLists.{listed, number, numbers}
use Rattle.pdb_msf.specs.MsfLayout.{IsSubsetOf, MappedFile, following, stream_at, with_bytes}
use Rattle.pdb_msf.proofs.SizeLemmas.{length_in_order}
use Rattle.pdb_msf.specs.Streams.{all_inside, bytes_of_blocks, stream_inside}

-- a number that is written stands in the bytes
written : (x : ℕ) (rest : List ℕ) → x < 2 ^ 32 → number (little_bytes 4 x ++ rest) ≡ x
written x rest small =
    little_from-take 0 4 4 (little_bytes 4 x ++ rest) (omega arith) ∙ little_number-reads_back 4 x rest small

-- the first of blocks that lie in the file does, and so do the others
pub first_inside : (size number : ℕ) (file blocks : List ℕ) → all_inside size file (number ∷ blocks) ≡ true
    → (number * size + size ≤ length file) × (all_inside size file blocks ≡ true)
first_inside size number file blocks inside = (grind (arith, common_steps), grind (arith, common_steps))

-- blocks that follow one another are one stretch of the file
one_stretch : (size first count : ℕ) (file : List ℕ)
    → bytes_of_blocks size file (following first count) ≡ take (count * size) (drop (first * size) file)
one_stretch size first zero file = grind (arith, common_steps)
one_stretch size first (suc count) file =
    let more : suc count * size ≡ size + count * size = grind arith in
    let next : (first + 1) * size ≡ first * size + size = grind arith in
    rw (more, take-add, drop-drop, one_stretch size (first + 1) count file, next) refl

-- blocks that follow one another lie in a file that is long enough
all_following : (size first count : ℕ) (file : List ℕ) → (first + count) * size ≤ length file
    → all_inside size file (following first count) ≡ true
all_following size first zero file long = refl
all_following size first (suc count) file long =
    let split : (first + suc count) * size ≡ first * size + size + count * size = grind arith in
    let same : (first + 1 + count) * size ≡ (first + suc count) * size = ap (λ n. n * size) (omega arith) in
    let here : nat_lt (length file) (first * size + size) ≡ false = grind (arith, nat_tests) in
    rw here (all_following size (first + 1) count file (omega arith))

-- with one number more before them, the numbers still follow one another
pub stepped : (count position place first : ℕ) (before after : List ℕ) → 0 < position → position ≤ count
    → first + count ≤ 2 ^ 32
    → numbers (count - position) (drop (place + 4 * position) before) ≡ following (first + position) (count - position)
    → drop (place + 4 * (position - 1)) after
    ≡ little_bytes 4 (first + (position - 1)) ++ drop 4 (drop (place + 4 * (position - 1)) before)
    → numbers (count - (position - 1)) (drop (place + 4 * (position - 1)) after)
    ≡ following (first + (position - 1)) (count - (position - 1))
stepped count position place first before after some within small so_far wrote =
    let behind : List ℕ = drop 4 (drop (place + 4 * (position - 1)) before) in
    let more : count - (position - 1) ≡ suc (count - position) = omega arith in
    let next : place + 4 * (position - 1) + 4 ≡ place + 4 * position = omega arith in
    let after_x : first + (position - 1) + 1 ≡ first + position = omega arith in
    let head = written (first + (position - 1)) behind (omega arith) in
    rw (more, wrote, head, drop-drop 4 (place + 4 * (position - 1)) before, next, after_x, so_far) refl

-- numbers are listed where there are bytes for them
pub listed_all : (count place : ℕ) (bytes : List ℕ) → 4 * count ≤ length bytes - place
    → listed count (drop place bytes) ≡ Ok (numbers count (drop place bytes))
unfolding listed
listed_all count place bytes room =
    let enough : nat_lt (length (drop place bytes)) (4 * count) ≡ false
    = simp length-drop (grind (arith, nat_tests)) in
    rw enough refl

-- a stream with a block outside of the file is broken in an excerpt too
pub refused : (size first place stream_length : ℕ) (file blocks held bytes : List ℕ) → all_inside size file held ≡ false
    → length blocks ≡ first * size → first < 2 ^ 32 → 0 < size → 4 * length held ≤ length bytes - place
    → numbers (min (length held) 1) (drop place bytes) ≡ following 4294967295 (min (length held) 1)
    → stream_at size blocks bytes place (length held) stream_length ≡ stream_inside size file stream_length held
unfolding stream_inside
refused size first place stream_length file blocks [] bytes outside long few some room numbered = cc
refused size first place stream_length file blocks (number_0 ∷ held) bytes outside long few some room numbered =
    let one : min (suc (length held)) 1 ≡ 1 = omega arith in
    let list = rw one at numbered in
    let head : number (drop place bytes) ≡ 4294967295 = cc in
    let below : first * size ≤ 4294967295 * size = mul-le-mul_right size (omega arith) in
    let far : nat_lt (length blocks) (4294967295 * size + size) ≡ true = grind (arith, nat_tests) in
    rw (listed_all (suc (length held)) place bytes room, head, far, outside) refl

-- a stream whose blocks were appended and numbered is the file's
pub placed : (size first place stream_length : ℕ) (file before after held bytes : List ℕ)
    → all_inside size file held ≡ true → length before ≡ first * size → 4 * length held ≤ length bytes - place
    → after ≡ before ++ bytes_of_blocks size file held
    → numbers (length held) (drop place bytes) ≡ following first (length held)
    → stream_at size after bytes place (length held) stream_length ≡ stream_inside size file stream_length held
unfolding stream_inside
placed size first place stream_length file before after held bytes inside long room read numbered =
    let blocks : List ℕ = bytes_of_blocks size file held in
    let bytes_long : length blocks ≡ length held * size = length_in_order size file held inside in
    let both : (first + length held) * size ≡ first * size + length held * size = grind arith in
    let enough : (first + length held) * size ≤ length (before ++ blocks) = simp length-append (omega arith) in
    rw (
      listed_all (length held) place bytes room,
      numbered,
      read,
      all_following size first (length held) (before ++ blocks) enough,
      inside,
      one_stretch size first (length held) (before ++ blocks),
      drop_at before blocks (first * size) long,
      take_all (length held * size) blocks (omega arith),
    ) refl

-- numbers that can't be listed can't be in as many other bytes
same_fault : (count : ℕ) (one other : List ℕ) (error : StreamError) → length one ≡ length other
    → listed count one ≡ Err error → listed count other ≡ Err error
unfolding listed
same_fault count one other error long is = grind (arith, common_steps)

-- numbers that are listed have their bytes
room_of : (count : ℕ) (bytes found : List ℕ) → listed count bytes ≡ Ok found → 4 * count ≤ length bytes
unfolding listed
room_of count bytes found is = grind (arith, common_steps)

-- a stream that isn't there is neither in the excerpt nor in the file
pub both_absent : (excerpt : Msf) (mapped : MappedFile) (number : ℕ) (file : List ℕ) → IsSubsetOf excerpt mapped
    → size_of (with_bytes file mapped) number ≡ Err NO_STREAM
    → stream_of excerpt number ≡ stream_of (with_bytes file mapped) number
unfolding stream_of size_of
both_absent excerpt mapped number file is absent = rw (is.0, absent) refl

-- a stream whose numbers can't be listed in the file's directory can't be read of the excerpt either
pub both_cut : (excerpt : Msf) (mapped : MappedFile) (number size place : ℕ) (file : List ℕ) (error : StreamError)
    → IsSubsetOf excerpt mapped → size_of (with_bytes file mapped) number ≡ Ok size
    → place ≡ numbers_place (with_bytes file mapped) number
    → listed (div_ceil size mapped.block_size) (drop place mapped.directory) ≡ Err error
    → stream_of excerpt number ≡ stream_of (with_bytes file mapped) number
unfolding stream_of size_of numbers_place
both_cut excerpt mapped number size place file error is sized at cut =
    let long : length (drop place mapped.directory) ≡ length (drop place excerpt.directory)
    = simp length-drop (omega arith) in
    let own = same_fault (div_ceil size mapped.block_size) (drop place mapped.directory) (drop place excerpt.directory)
    error long cut in
    rw (is.0, is.1, sized, ← at, cut, own) refl

-- a stream whose blocks were added is in the excerpt what it is in the file
pub added : (excerpt : Msf) (mapped : MappedFile) (number size place : ℕ) (file held before after : List ℕ)
    → IsSubsetOf excerpt mapped → excerpt.directory ≡ after → length after ≡ length before
    → size_of (with_bytes file mapped) number ≡ Ok size → place ≡ numbers_place (with_bytes file mapped) number
    → listed (div_ceil size mapped.block_size) (drop place mapped.directory) ≡ Ok held
    → length held ≡ div_ceil size mapped.block_size
    → (4 * length held ≤ length before - place
    → stream_at mapped.block_size excerpt.file after place (length held) size
    ≡ stream_inside mapped.block_size file size held)
    → stream_of excerpt number ≡ stream_of (with_bytes file mapped) number
unfolding stream_of size_of numbers_place
added excerpt mapped number size place file held before after is wrote same sized at found count placed_is =
    let has = simp length-drop at (room_of _ (drop place mapped.directory) held found) in
    let long : length excerpt.directory ≡ length after = ap length wrote in
    let room : 4 * length held ≤ length before - place = rw count (omega arith) in
    rw (is.0, is.1, sized, ← at, found, wrote, ← count) (placed_is room)
