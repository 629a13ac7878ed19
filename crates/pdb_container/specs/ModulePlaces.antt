-- Which stream has the records of each module, and the records of each.
use Rattle.std.specs.Prelude.{ℕ, ◌-◌, ◌==◌, nat_lt, List, [], ◌∷◌, length, map, Option, Some, None, Result, Ok, Err}
use Rattle.std.specs.Prelude.{slice_get, if◌then◌else◌}
use Rattle.std.specs.Option.{unwrap_or}
use Rattle.std.specs.Result.{result_ok}
use Rattle.pdb_records.specs.declared.error.StreamError.{StreamError}
use Rattle.pdb_records.specs.declared.modules.ModuleInfo.{ModuleInfo}
use Rattle.pdb_msf.specs.declared.faults.TheConstants.{TOO_LONG}
use Rattle.pdb_msf.specs.Faults.{◌>>=◌}
use Rattle.pdb_msf.specs.Msf.{Msf, size_of, stream_of}
use Rattle.pdb_dbi.specs.declared.module_substream.ModuleStream.{ModuleStream}
use Rattle.pdb_container.specs.ModuleStreams.{module_in}
use Rattle.pdb_dbi.specs.PublishedNumbers.{sn_nil}

-- which stream has the records of a module, `None` for a module without a stream, or why they aren't read
abbrev pub PlaceOrFault : Type 0
PlaceOrFault = Result (Option ModuleStream) StreamError

-- the records of a module, `None` if it has no stream, or why they can't be read
abbrev pub ModuleOrFault : Type 0
ModuleOrFault = Result (Option ModuleInfo) StreamError

-- how many bytes a stream has; 0 if there is no stream with this number
abbrev pub bytes_read : Msf → ℕ → ℕ
bytes_read msf number = unwrap_or (result_ok (size_of msf number)) 0

-- which stream has the records of a module, if it has one; `left` is how many bytes of module streams may still be
-- read. A longer stream isn't read
abbrev pub place_within : Msf → ℕ → ModuleStream → PlaceOrFault
place_within msf left place =
    if place.stream == sn_nil then Ok None else
    if nat_lt left (bytes_read msf place.stream) then Err TOO_LONG else
    Ok (Some place)

-- how many bytes may still be read after a module: the size of its stream is subtracted if the stream is read
abbrev pub left_behind : Msf → ℕ → ModuleStream → ℕ
left_behind msf left place =
    if place.stream == sn_nil then left else
    if nat_lt left (bytes_read msf place.stream) then left else
    left - bytes_read msf place.stream

-- which streams have the records of modules, if at most `left` bytes may be read from them together
abbrev pub places_within : Msf → ℕ → List ModuleStream → List PlaceOrFault
places_within msf left [] = []
places_within msf left (place ∷ places) =
    place_within msf left place ∷ places_within msf (left_behind msf left place) places

-- which streams have the records of each module; together they may have at most as many bytes as the file
abbrev pub module_places : Msf → List ModuleStream → List PlaceOrFault
module_places msf places = places_within msf (length msf.file) places

-- the records of a module in this stream; `None` for a module without a stream
abbrev pub module_there : Msf → Option ModuleStream → ModuleOrFault
module_there msf None = Ok None
module_there msf (Some place) = do
  stream ← stream_of msf place.stream
  Ok (Some (module_in place stream))

-- the records of a module by its stream, or why they can't be read
abbrev pub module_of : Msf → PlaceOrFault → ModuleOrFault
module_of msf place = place >>= module_there msf

-- the records of each module, before chunks and jumps get names
unfoldable pub modules_read : Msf → List ModuleStream → List ModuleOrFault
modules_read msf places = map (module_of msf) (module_places msf places)

-- the stream of the module at a position of the list; `None` after the last module
abbrev pub place_at : List PlaceOrFault → ℕ → PlaceOrFault
place_at places position = unwrap_or (slice_get places position) (Ok None)

-- the records of the module at a position, before chunks and jumps get names; `None` after the last module
unfoldable pub module_at : Msf → List ModuleStream → ℕ → ModuleOrFault
module_at msf places position = module_of msf (place_at (module_places msf places) position)
