-- Where blocks start, and what is read of neighbours together.
use Rattle.std.proofs.Common.{◌≡◌, ℕ, ◌+◌, ◌*◌, ◌^◌, ◌<◌, ◌≤◌, List, ◌++◌, take, drop, get_or, length}
use Rattle.std.proofs.Common.{Option, Some, None, IfSome, arith, append_assoc}
use Rattle.std.proofs.lemmas.List.{drop_more}
use Rattle.pdb_msf.proofs.KnownLemmas.{both_hold}
use Rattle.pdb_msf.proofs.StreamLemmas.{run_longer}
use Rattle.pdb_msf.specs.Streams.{bytes_of_blocks}

-- a block with a number of four bytes starts below the product of both limits
pub start_below : (number size : ℕ) → number < 2 ^ 32 → size ≤ 32768 → number * size ≤ 2 ^ 47
start_below number size few small = grind arith

-- bytes, a run of the file that isn't read yet, and the blocks that are left are the bytes before and all blocks
abbrev pub Pending : Option (List ℕ) → ℕ → List ℕ → List ℕ → ℕ → List ℕ → ℕ → ℕ → Type 0
Pending known size blocks before index bytes start count =
    IfSome known (λ file. bytes ++ (take count (drop start file) ++ bytes_of_blocks size file (drop index blocks))
    ≡ before ++ bytes_of_blocks size file blocks)

-- where the next block stands behind the run, the run with the block is pending
pub longer : (known : Option (List ℕ)) (size : ℕ) (blocks before : List ℕ) (index : ℕ) (bytes : List ℕ)
    (start count : ℕ) → index < length blocks → get_or blocks index 0 * size ≡ start + count
    → Pending known size blocks before index bytes start count
    → Pending known size blocks before (index + 1) bytes start (count + size)
longer None size blocks before index bytes start count below at is = is
longer (Some file) size blocks before index bytes start count below at is =
    rw (drop_more blocks index 0 below, at, run_longer) at is

-- where the run is read, the next block is pending
pub begun : (known here : Option (List ℕ)) (size : ℕ) (blocks before : List ℕ) (index : ℕ) (bytes after : List ℕ)
    (start count next : ℕ) → here ≡ known → index < length blocks → next ≡ get_or blocks index 0 * size
    → Pending known size blocks before index bytes start count
    → IfSome here (λ file. after ≡ bytes ++ take count (drop start file))
    → Pending known size blocks before (index + 1) after next (0 + size)
begun known here size blocks before index bytes after start count next same below at is read =
    let none : 0 + size ≡ size = omega arith in
    both_hold _ _ _ known here same is read (λ file pending found.
    rw (found, none, at, append_assoc) (rw (drop_more blocks index 0 below) at pending))

-- with one block more that isn't read yet, the bytes and the run are as many as those before and the blocks so far
pub one_longer : (size index before bytes run : ℕ) → bytes + run ≡ before + index * size
    → bytes + (run + size) ≡ before + (index + 1) * size
one_longer size index before bytes run is =
    let more : (index + 1) * size ≡ index * size + size = grind arith in
    omega (arith, more)

-- the same where the run was read
pub one_begun : (size index before bytes run after : ℕ) → bytes + run ≡ before + index * size → after ≡ bytes + run
    → after + (0 + size) ≡ before + (index + 1) * size
one_begun size index before bytes run after is read =
    let more : (index + 1) * size ≡ index * size + size = grind arith in
    omega (arith, more)
