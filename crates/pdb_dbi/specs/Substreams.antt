-- Substreams: ranges of a stream, as far as the stream has their bytes.
use Rattle.std.specs.Prelude.{ℕ, List, Option, Some, None, length, nat_lt, take, if◌then◌else◌}
use Rattle.pdb_records.specs.declared.error.StreamError.{StreamError}
use Rattle.pdb_msf.specs.declared.faults.TheConstants.{CUT}

-- the bytes of a substream that the stream has, and the fault if they end early
pub record SubstreamBytes : Type 0 where
  pub bytes : List ℕ
  pub fault : Option StreamError

-- the fault of a substream that should have `wanted` bytes: `CUT` if there are fewer
abbrev pub ends_early : ℕ → List ℕ → Option StreamError
ends_early wanted bytes = if nat_lt (length bytes) wanted then Some CUT else None

-- the substream of `wanted` bytes at the start of these bytes, as far as they go
abbrev pub substream : ℕ → List ℕ → SubstreamBytes
substream wanted bytes = record { bytes = take wanted bytes; fault = ends_early wanted bytes }
