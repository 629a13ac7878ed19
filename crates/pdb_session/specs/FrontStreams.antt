-- Which streams of a file are read before any of its modules.
use Rattle.std.specs.Prelude.{◌≡◌, ℕ, All, List, [], ◌++◌, option_to_list, Result, Ok, Err}
use Rattle.std.specs.Result.{result_ok}
use Rattle.pdb_records.specs.declared.error.StreamError.{StreamError}
use Rattle.pdb_msf.specs.Msf.{Msf, stream_of}
use Rattle.pdb_dbi.specs.OptionalStreams.{optional_stream, stream_number}
use Rattle.pdb_dbi.specs.declared.debug_header.DebugHeader.{DebugHeader}
use Rattle.pdb_container.specs.DebugRecords.{debug_header}
use Rattle.pdb_container.specs.Info.{named_stream}
use Rattle.pdb_container.specs.NameStream.{names_name}

-- the streams that the header of the debug information names: global symbols and section headers
abbrev pub named_by_header : Result DebugHeader StreamError → List ℕ
named_by_header (Ok front) =
    option_to_list (stream_number front.global_symbols)
    ++ option_to_list (optional_stream front.optional_streams.bytes 5)
named_by_header (Err fault) = []

-- the streams that a container names for global symbols, section headers and strings
abbrev pub named_by_front : Msf → List ℕ
named_by_front msf =
    named_by_header (debug_header msf) ++ option_to_list (result_ok (named_stream names_name (stream_of msf 1)))

-- an excerpt has the bytes that these streams have in the file
abbrev pub HasStreams : Msf → Msf → List ℕ → Type 0
HasStreams excerpt msf numbers = All (λ number. stream_of excerpt number ≡ stream_of msf number) numbers

-- an excerpt still has each stream of the file that it had before
abbrev pub KeepsStreams : Msf → Msf → Msf → Type 0
KeepsStreams msf before after =
    (number : ℕ) → stream_of before number ≡ stream_of msf number → stream_of after number ≡ stream_of msf number
