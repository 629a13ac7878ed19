-- Where the directory has each stream.
use Rattle.std.proofs.Common.{◌≡◌, ◌∙◌, ℕ, zero, suc, ◌+◌, ◌*◌, List, [], ◌∷◌, take, length, slice_get, map}
use Rattle.std.proofs.Common.{Some, refl, sym, ap, arith}
use Rattle.std.proofs.lemmas.Grind.{common_steps}
use Rattle.std.proofs.lemmas.List.{length-map}
use Rattle.std.proofs.lemmas.List.Sums.{sum_by-cons}
use Rattle.std.specs.List.{sum_by}
use Rattle.pdb_msf.specs.Directory.{block_count, extents}
use Rattle.pdb_msf.specs.declared.directory.StreamExtent.{StreamExtent}

-- the sizes of streams
abbrev pub sizes : List StreamExtent → List ℕ
sizes streams = map (λ stream. stream.size) streams

-- the extents of streams have their sizes
pub extent_sizes : (block_size place : ℕ) (all : List ℕ) → sizes (extents block_size place all) ≡ all
extent_sizes block_size place [] = refl
extent_sizes block_size place (size ∷ all) =
    ap (λ others. size ∷ others) (extent_sizes block_size (place + 4 * block_count block_size size) all)

-- streams are as many as their sizes
pub extent_count : (block_size place : ℕ) (all : List ℕ) → length (extents block_size place all) ≡ length all
extent_count block_size place all =
    sym (length-map (extents block_size place all) (λ stream. stream.size))
    ∙ ap length (extent_sizes block_size place all)

-- the extents by sizes are those by their own sizes
pub own_extents : (block_size : ℕ) (all : List ℕ) (streams : List StreamExtent)
    → streams ≡ extents block_size (4 + 4 * length all) all
    → streams ≡ extents block_size (4 + 4 * length streams) (sizes streams)
own_extents block_size all streams is =
    let count : length streams ≡ length all
    = ap length is ∙ extent_count block_size (4 + 4 * length all) all in
    let same : sizes streams ≡ all = ap sizes is ∙ extent_sizes block_size (4 + 4 * length all) all in
    rw (count, same) is

-- what is known of streams that were listed
pub ruleset opened = (own_extents, extent_sizes)

-- the numbers of a stream's blocks stand behind those of all streams before it
extent_at : (block_size place : ℕ) (all : List ℕ) (number : ℕ) (found : StreamExtent)
    → slice_get (extents block_size place all) number ≡ Some found
    → found.numbers ≡ place + 4 * sum_by (block_count block_size) (take number all)
extent_at block_size place [] number found is = cc
extent_at block_size place (size ∷ all) zero found is = grind (arith, common_steps)
extent_at block_size place (size ∷ all) (suc number) found is =
    let others = extent_at block_size (place + 4 * block_count block_size size) all number found is in
    let sum_is = sum_by-cons (block_count block_size) size (take number all) in
    omega arith

-- the same of streams that are the extents by their own sizes
pub own_extent_at : (block_size : ℕ) (streams : List StreamExtent) (number : ℕ) (found : StreamExtent)
    → streams ≡ extents block_size (4 + 4 * length streams) (sizes streams)
    → slice_get streams number ≡ Some found
    → found.numbers ≡ 4 + 4 * length (sizes streams) + 4 * sum_by (block_count block_size) (take number (sizes streams))
own_extent_at block_size streams number found own is =
    rw (length-map streams (λ stream. stream.size))
    (extent_at block_size (4 + 4 * length streams) (sizes streams) number found (rw own at is))
