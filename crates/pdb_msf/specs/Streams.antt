-- Streams: data that a file has in a list of blocks.
use Rattle.std.specs.Prelude.{ℕ, ◌+◌, ◌*◌, max, nat_lt, Bool, true, false, List, [], ◌∷◌, ◌++◌, take, drop, length}
use Rattle.std.specs.Prelude.{Result, Ok, Err, if◌then◌else◌}
use Rattle.pdb_records.specs.declared.error.StreamError.{StreamError}
use Rattle.pdb_msf.specs.declared.faults.TheConstants.{BLOCK_OUTSIDE}
use Rattle.pdb_msf.specs.declared.streams.StreamBytes.{StreamBytes}
use Rattle.pdb_msf.specs.declared.streams.StreamBytes.TheVariants.{InPlace, Copied}

-- the bytes of the block with this number; the blocks have one size and follow one another from the start of the file
abbrev pub block : ℕ → List ℕ → ℕ → List ℕ
block size file number = take size (drop (number * size) file)

-- the bytes of these blocks, in the order of the list
abbrev pub bytes_of_blocks : ℕ → List ℕ → List ℕ → List ℕ
bytes_of_blocks size file [] = []
bytes_of_blocks size file (number ∷ numbers) = block size file number ++ bytes_of_blocks size file numbers

-- the bytes of a stream: its blocks in order, up to its length
abbrev pub stream : ℕ → List ℕ → ℕ → List ℕ → List ℕ
stream size file stream_length numbers = take stream_length (bytes_of_blocks size file numbers)

-- whether the file has each of these blocks completely
abbrev pub all_inside : ℕ → List ℕ → List ℕ → Bool
all_inside size file [] = true
all_inside size file (number ∷ numbers) =
    if nat_lt (length file) (number * size + size) then false else all_inside size file numbers

-- where the last of these blocks ends in the file
abbrev pub blocks_end : ℕ → List ℕ → ℕ
blocks_end size [] = 0
blocks_end size (number ∷ numbers) = max (number * size + size) (blocks_end size numbers)

-- the bytes of a stream; an error if the file doesn't have each of its blocks completely
unfoldable pub stream_inside : ℕ → List ℕ → ℕ → List ℕ → Result (List ℕ) StreamError
stream_inside size file stream_length numbers =
    if all_inside size file numbers then Ok (stream size file stream_length numbers) else Err BLOCK_OUTSIDE

-- the bytes of a stream, whether they are borrowed from the file or copied
abbrev pub bytes_of : StreamBytes → List ℕ
bytes_of (InPlace bytes) = bytes.now
bytes_of (Copied bytes) = bytes.items
