-- When two files have the same front: the streams that are read before any module.
use Rattle.std.specs.Prelude.{◌≡◌, ℕ, Some, Ok}
use Rattle.pdb_msf.specs.Msf.{Msf, stream_of}
use Rattle.pdb_dbi.specs.OptionalStreams.{optional_stream, stream_number}
use Rattle.pdb_dbi.specs.declared.debug_header.DebugHeader.{DebugHeader}
use Rattle.pdb_container.specs.DebugRecords.{debug_header}
use Rattle.pdb_container.specs.Info.{named_stream}
use Rattle.pdb_container.specs.NameStream.{names_name}

-- two containers have streams of the same sizes, and the same bytes of the info stream, of the debug information
-- stream, and of the streams that these two name for symbols, section headers and strings
pub record SameFronts (a b : Msf) : Type 0 where
  pub sizes : a.sizes ≡ b.sizes
  pub info : stream_of a 1 ≡ stream_of b 1
  pub debug : stream_of a 3 ≡ stream_of b 3
  pub symbols : (front : DebugHeader) (number : ℕ) → debug_header a ≡ Ok front
      → stream_number front.global_symbols ≡ Some number → stream_of a number ≡ stream_of b number
  pub sections : (front : DebugHeader) (number : ℕ) → debug_header a ≡ Ok front
      → optional_stream front.optional_streams.bytes 5 ≡ Some number → stream_of a number ≡ stream_of b number
  pub texts : (number : ℕ) → named_stream names_name (stream_of a 1) ≡ Ok number
      → stream_of a number ≡ stream_of b number
