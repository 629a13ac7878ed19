-- The streams of a PDB file that have frame data, FPO data, and program strings.
use Rattle.std.specs.Prelude.{ℕ, List, [], Option, Some, None, Result, Ok, Err}
use Rattle.pdb_records.specs.declared.error.StreamError.{StreamError}
use Rattle.pdb_msf.specs.Faults.{◌>>=◌}
use Rattle.pdb_msf.specs.Msf.{Msf, stream_of}
use Rattle.pdb_dbi.specs.DebugHeader.{header}
use Rattle.pdb_dbi.specs.OptionalStreams.{optional_stream}
use Rattle.pdb_container.specs.Info.{named_stream}
use Rattle.pdb_container.specs.NameStream.{names_name}

-- the bytes of an optional stream; empty if the file has no such stream
abbrev pub optional_bytes : Msf → Option ℕ → Result (List ℕ) StreamError
optional_bytes msf None = Ok []
optional_bytes msf (Some number) = stream_of msf number

-- the stream at a position of the optional debug header, in the debug information stream, number 3; FPO data is at 0,
-- frame data at 9
unfoldable pub frame_stream : Msf → ℕ → Result (List ℕ) StreamError
frame_stream msf position = do
  debug ← stream_of msf 3
  front ← header debug
  optional_bytes msf (optional_stream front.optional_streams.bytes position)

-- the bytes; empty if they can't be read
abbrev pub or_nothing : Result (List ℕ) StreamError → List ℕ
or_nothing (Ok bytes) = bytes
or_nothing (Err error) = []

-- the stream of program strings, which the info stream, number 1, names /names
unfoldable pub program_strings : Msf → List ℕ
program_strings msf = or_nothing (named_stream names_name (stream_of msf 1) >>= stream_of msf)
