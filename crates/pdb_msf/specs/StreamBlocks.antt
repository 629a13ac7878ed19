-- Streams of a file that is read range by range, by their blocks.
use Rattle.std.specs.Prelude.{ℕ, ◌==◌, List, length, Option, Some, None, Result, Ok, Err, if◌then◌else◌}
use Rattle.pdb_records.specs.declared.error.StreamError.{StreamError}
use Rattle.pdb_msf.specs.Streams.{stream}

-- the blocks of a stream: the length of the file, the block size, the numbers of the blocks in order, and the size of
-- the stream
pub record BlockList : Type 0 where
  pub file_length : ℕ
  pub block_size : ℕ
  pub numbers : List ℕ
  pub size : ℕ

-- the bytes of the stream in these blocks of a file
abbrev pub stream_in : List ℕ → BlockList → List ℕ
stream_in file blocks = stream blocks.block_size file blocks.size blocks.numbers

-- the bytes of a stream by its blocks, or why they can't be read
abbrev pub blocks_read : List ℕ → Result BlockList StreamError → Result (List ℕ) StreamError
blocks_read file (Ok blocks) = Ok (stream_in file blocks)
blocks_read file (Err error) = Err error

-- the bytes of the stream in these blocks, if the source has a model of the file's bytes and these have the right
-- length
abbrev pub said_in : Option (List ℕ) → BlockList → Option (List ℕ)
said_in None blocks = None
said_in (Some file) blocks = if length file == blocks.file_length then Some (stream_in file blocks) else None
