-- Where blocks end in a file, and why a file can't be opened.
use Rattle.std.proofs.Common.{◌≡◌, ℕ, zero, suc, ◌+◌, ◌-◌, ◌*◌, ◌/◌, ◌%◌, ◌<◌, ◌≤◌, List, [], ◌∷◌, true}
use Rattle.std.proofs.Common.{take, drop, get_or, length, replicate, refl, ap, arith}
use Rattle.std.proofs.lemmas.Grind.{common_steps}
use Rattle.std.proofs.lemmas.List.{length-replicate}
use Rattle.std.proofs.lemmas.Nat.{div_below}
use Rattle.pdb_msf.proofs.ExcerptLemmas.{first_inside}
use Rattle.pdb_msf.specs.MsfLayout.{open_error}
use Rattle.pdb_msf.specs.Streams.{all_inside, blocks_end}
use Rattle.pdb_msf.specs.declared.source_error.OpenError.TheVariants as opened
use Rattle.pdb_msf.specs.declared.source_error.SourceError.{SourceError}
use Rattle.pdb_msf.specs.declared.source_error.SourceError.TheVariants as source

-- a block of a list ends no later than the last of them
pub block_ends : (size : ℕ) (numbers : List ℕ) (index : ℕ) → index < length numbers
    → get_or numbers index 0 * size + size ≤ blocks_end size numbers
block_ends size [] index there = absurd (omega arith)
block_ends size (number ∷ numbers) zero there = omega arith
block_ends size (number ∷ numbers) (suc index) there =
    let rest = block_ends size numbers index (omega arith) in
    omega (arith, rest)

-- blocks that lie in a file end in it
ends_inside : (size : ℕ) (file numbers : List ℕ) → all_inside size file numbers ≡ true
    → blocks_end size numbers ≤ length file
ends_inside size file [] inside = omega arith
ends_inside size file (number ∷ numbers) inside =
    let both = first_inside size number file numbers inside in
    let rest = ends_inside size file numbers both.1 in
    omega (arith, both.0, rest)

-- blocks that lie in each file of this length end in it
pub ends_within : (size file_length : ℕ) (numbers : List ℕ)
    → ((file : List ℕ) → length file ≡ file_length → all_inside size file numbers ≡ true)
    → blocks_end size numbers ≤ file_length
ends_within size file_length numbers inside =
    let long = length-replicate file_length 0 in
    let ends = ends_inside size (replicate file_length 0) numbers (inside (replicate file_length 0) long) in
    omega (arith, long, ends)

-- some of the blocks end no later than all of them
pub later_end : (count size : ℕ) (numbers : List ℕ) → blocks_end size (drop count numbers) ≤ blocks_end size numbers
later_end zero size numbers = omega arith
later_end (suc count) size [] = omega arith
later_end (suc count) size (number ∷ numbers) = let rest = later_end count size numbers in omega (arith, rest)

pub earlier_end : (count size : ℕ) (numbers : List ℕ) → blocks_end size (take count numbers) ≤ blocks_end size numbers
earlier_end zero size numbers = omega arith
earlier_end (suc count) size [] = omega arith
earlier_end (suc count) size (number ∷ numbers) = let rest = earlier_end count size numbers in omega (arith, rest)

-- the part of a block from a place of a stream on ends in the file
pub run_ends : (size file_length place stream start run : ℕ) (numbers : List ℕ)
    → ((file : List ℕ) → length file ≡ file_length → all_inside size file numbers ≡ true)
    → 0 < size → stream ≤ length numbers * size → place < stream
    → start ≡ get_or numbers (place / size) 0 * size → run ≤ size - place % size
    → start + place % size + run ≤ file_length
run_ends size file_length place stream start run numbers inside some enough there at short =
    let position = div_below place size (length numbers) some (omega arith) in
    let ends = block_ends size numbers (place / size) position in
    let all = ends_within size file_length numbers inside in
    let within : place % size < size = grind (arith, common_steps) in
    omega (arith, ends, all, within)

-- some of the blocks of a stream end in the file
pub part_ends : (size file_length more first : ℕ) (numbers part : List ℕ)
    → ((file : List ℕ) → length file ≡ file_length → all_inside size file numbers ≡ true)
    → part ≡ take more (drop first numbers) → blocks_end size part ≤ file_length
part_ends size file_length more first numbers part inside part_is =
    let few = earlier_end more size (drop first numbers) in
    let rest = later_end first size numbers in
    let all = ends_within size file_length numbers inside in
    let same = ap (blocks_end size) part_is in
    omega (arith, few, rest, all, same)

-- a file can't be opened for a range that can't be read only where reading was refused for one
pub opened_unreadable : (fault : SourceError) → open_error fault ≡ opened.Unreadable → fault ≡ source.Unreadable
opened_unreadable source.Unreadable is = refl
opened_unreadable source.OutOfMemory is = cc
