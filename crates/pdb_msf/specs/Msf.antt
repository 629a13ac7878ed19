-- A container of the format MSF 7.00, and the bytes of its streams.
use Rattle.std.specs.Prelude.{ℕ, ◌+◌, ◌*◌, ◌==◌, nat_lt, List, take, drop, length, slice_get}
use Rattle.std.specs.Prelude.{Option, Some, None, Result, Ok, Err, if◌then◌else◌}
use Rattle.std.specs.Int.{div_ceil}
use Rattle.std.specs.List.{sum_by}
use Rattle.pdb_records.specs.declared.error.StreamError.{StreamError}
use Rattle.pdb_msf.specs.declared.container_error.ContainerError.{ContainerError}
use Rattle.pdb_msf.specs.declared.container_error.ContainerError.TheVariants as fault
use Rattle.pdb_msf.specs.declared.faults.TheConstants.{NO_STREAM}
use Rattle.pdb_msf.specs.Directory.{absent, block_count, directory, sizes_in, total_size}
use Rattle.pdb_msf.specs.Faults.{◌>>=◌, cut_short}
use Rattle.pdb_msf.specs.NumberLists.{listed}
use Rattle.pdb_msf.specs.Streams.{stream_inside}
use Rattle.pdb_msf.specs.Superblock.{superblock}

-- a file as a container: its bytes, its block size, the bytes of its directory, and the sizes of its streams
pub record Msf : Type 0 where
  pub file : List ℕ
  pub block_size : ℕ
  pub directory : List ℕ
  pub sizes : List ℕ

-- the container of these bytes, with this block size, directory and stream sizes
abbrev pub over : List ℕ → ℕ → List ℕ → List ℕ → Msf
over file block_size directory sizes =
    record { file = file; block_size = block_size; directory = directory; sizes = sizes }

-- a file is a container if it has a superblock, a directory and the sizes of streams, and the streams together aren't
-- longer than the file; otherwise the first fault of these
unfoldable pub container : List ℕ → Result Msf ContainerError
container file = do
  front ← superblock file
  bytes ← cut_short (directory front file)
  sizes ← cut_short (sizes_in bytes)
  if nat_lt (length file) (total_size sizes) then Err fault.StreamsTooLong else
      Ok (record { file = file; block_size = front.block_size; directory = bytes; sizes = sizes })

-- the size of a stream by its entry in the directory; an error if there is no entry or the stream is missing
abbrev pub present : Option ℕ → Result ℕ StreamError
present None = Err NO_STREAM
present (Some size) = if size == absent then Err NO_STREAM else Ok size

-- the size of the stream of this number
unfoldable pub size_of : Msf → ℕ → Result ℕ StreamError
size_of msf number = present (slice_get msf.sizes number)

-- where the directory has the block numbers of a stream: after the number of streams, all sizes, and the block numbers
-- of all streams before it
unfoldable pub numbers_place : Msf → ℕ → ℕ
numbers_place msf number =
    4 + 4 * length msf.sizes + 4 * sum_by (block_count msf.block_size) (take number msf.sizes)

-- the block numbers of a stream, by its number and its size
abbrev pub stream_blocks : Msf → ℕ → ℕ → Result (List ℕ) StreamError
stream_blocks msf number size = listed (div_ceil size msf.block_size) (drop (numbers_place msf number) msf.directory)

-- the bytes of the stream with this number: its blocks in order, up to its size
unfoldable pub stream_of : Msf → ℕ → Result (List ℕ) StreamError
stream_of msf number = do
  size ← size_of msf number
  blocks ← stream_blocks msf number size
  stream_inside msf.block_size msf.file size blocks
