-- The streams of a PDB file that say where its source files can be fetched.
use Rattle.std.specs.Prelude.{◌≡◌, ℕ, zero, suc, ◌+◌, Bool, List, [], ◌∷◌, ◌++◌, codes}
use Rattle.std.specs.Prelude.{is_some, unwrap_or, Option, Some, None, Result, Ok, Err}
use Rattle.std.specs.Fmt.{decimal}
use Rattle.pdb_records.specs.declared.error.StreamError.{StreamError}
use Rattle.pdb_msf.specs.Msf.{Msf, stream_of}
use Rattle.pdb_container.specs.Info.{named_stream}
use Rattle.pdb_source_urls.specs.SourceLinks.{Link, with_text}
use Rattle.pdb_source_urls.specs.SourceServer.{Server, server_of}

-- the bytes of a stream, or none where it can't be read
abbrev pub bytes_or_none : Result (List ℕ) StreamError → List ℕ
bytes_or_none (Ok bytes) = bytes
bytes_or_none (Err error) = []

-- the bytes of the stream of a number, where a name leads to one
abbrev pub bytes_by : Msf → Result ℕ StreamError → Option (List ℕ)
bytes_by msf (Ok number) = Some (bytes_or_none (stream_of msf number))
bytes_by msf (Err error) = None

-- the bytes of the stream of this name, which ends in a zero, if there is one; the info stream, which has the number 1,
-- lists the names
unfoldable pub named_bytes : List ℕ → Msf → Option (List ℕ)
named_bytes name msf = bytes_by msf (named_stream name (stream_of msf 1))

-- a number at the end of a name, with the zero after it
abbrev pub numbered_name : ℕ → List ℕ
numbered_name number = codes "sourcelink$" ++ (decimal number ++ 0 ∷ [])

-- the first Source Link stream has no number
abbrev pub plain_name : List ℕ
plain_name = codes "sourcelink" ++ 0 ∷ []

-- entries, and those of a stream if there is one
abbrev pub with_stream : Option (List ℕ) → List Link → List Link
with_stream None links = links
with_stream (Some stream) links = with_text stream links

-- the entries of a stream are added to those before, if there is one
abbrev pub AddsStream : Bool → Option (List ℕ) → List Link → List Link → Type 0
AddsStream there stream before after = (there ≡ is_some stream) × (after ≡ with_stream stream before)

-- entries, and those of a stream and of others after it; without the stream there are no others
abbrev pub with_others : (List Link → List Link) → Option (List ℕ) → List Link → List Link
with_others others None links = links
with_others others (Some stream) links = others (with_text stream links)

-- entries, and those of so many streams whose numbers go on from this one, up to the first number that no stream has
unfoldable pub with_numbered : Msf → ℕ → ℕ → List Link → List Link
with_numbered msf zero number links = links
with_numbered msf (suc more) number links =
    with_others (with_numbered msf more (number + 1)) (named_bytes (numbered_name number) msf) links

-- the entries of a file: those of the stream without a number, and of the streams with the numbers from 1 to 63
unfoldable pub links_of : Msf → List Link
links_of msf = with_numbered msf 63 1 (with_stream (named_bytes plain_name msf) [])

-- the name of the stream of source server data
abbrev pub server_name : List ℕ
server_name = codes "srcsrv" ++ 0 ∷ []

-- the source server data of a file
unfoldable pub server_in : Msf → Server
server_in msf = server_of (unwrap_or (named_bytes server_name msf) [])
