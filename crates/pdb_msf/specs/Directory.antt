-- The directory of a file: its own blocks, the sizes of the streams, and the numbers of their blocks.
use Rattle.std.specs.Prelude.{ℕ, ◌+◌, ◌*◌, ◌==◌, nat_lt, List, [], ◌∷◌, drop, length, Result, Err, if◌then◌else◌}
use Rattle.std.specs.Int.{div_ceil}
use Rattle.std.specs.List.{sum_by}
use Rattle.pdb_records.specs.declared.error.StreamError.{StreamError}
use Rattle.pdb_msf.specs.declared.faults.TheConstants.{CUT}
use Rattle.pdb_msf.specs.declared.directory.StreamExtent.{StreamExtent}
use Rattle.pdb_msf.specs.declared.superblock.Superblock.{Superblock}
use Rattle.pdb_msf.specs.Faults.{◌>>=◌}
use Rattle.pdb_msf.specs.NumberLists.{number, listed}
use Rattle.pdb_msf.specs.Streams.{stream_inside}

-- the size that the directory has for a missing stream
abbrev pub absent : ℕ
absent = 4294967295

-- the number of blocks that hold the directory
abbrev pub directory_blocks : Superblock → ℕ
directory_blocks front = div_ceil front.directory_size front.block_size

-- the numbers of the blocks of the block map: as many as the map takes, most often one. They start at offset 52 of the
-- superblock
abbrev pub map_blocks : Superblock → List ℕ → Result (List ℕ) StreamError
map_blocks front file = listed (div_ceil (4 * directory_blocks front) front.block_size) (drop 52 file)

-- the block map: the numbers of the directory's blocks, four bytes each, in blocks of its own
unfoldable pub block_map : Superblock → List ℕ → Result (List ℕ) StreamError
block_map front file = do
  blocks ← map_blocks front file
  bytes ← stream_inside front.block_size file (4 * directory_blocks front) blocks
  listed (directory_blocks front) bytes

-- the bytes of the directory, in the blocks that the block map lists. A directory longer than the file is cut
unfoldable pub directory : Superblock → List ℕ → Result (List ℕ) StreamError
directory front file =
    if nat_lt (length file) front.directory_size then Err CUT else (do
      blocks ← block_map front file
      stream_inside front.block_size file front.directory_size blocks)

-- the sizes of the streams: the directory begins with the number of streams, and their sizes follow
unfoldable pub sizes_in : List ℕ → Result (List ℕ) StreamError
sizes_in bytes = if nat_lt (length bytes) 4 then Err CUT else listed (number bytes) (drop 4 bytes)

-- the number of bytes in a stream of this size; a missing stream has none
abbrev pub bytes_in : ℕ → ℕ
bytes_in size = if size == absent then 0 else size

-- the number of bytes in all streams together
abbrev pub total_size : List ℕ → ℕ
total_size sizes = sum_by bytes_in sizes

-- the number of blocks that hold a stream of this size
abbrev pub block_count : ℕ → ℕ → ℕ
block_count block_size size = div_ceil (bytes_in size) block_size

-- where the directory has the block numbers of each stream: after those of the stream before it
abbrev pub extents : ℕ → ℕ → List ℕ → List StreamExtent
extents block_size place [] = []
extents block_size place (size ∷ sizes) =
    record { size = size; numbers = place } ∷ extents block_size (place + 4 * block_count block_size size) sizes
