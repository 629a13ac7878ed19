-- The types and the ids of a file, which have streams of their own.
use Rattle.std.specs.Prelude.{ℕ, ◌==◌, List, Result, Ok, Err, if◌then◌else◌}
use Rattle.pdb_records.specs.declared.error.StreamError.{StreamError}
use Rattle.pdb_records.specs.declared.ids.IdData.{IdData}
use Rattle.pdb_records.specs.declared.ids.IdIndex.{IdIndex}
use Rattle.pdb_records.specs.declared.types.ItemInformation.{ItemInformation}
use Rattle.pdb_records.specs.declared.types.TypeData.{TypeData}
use Rattle.pdb_records.specs.declared.types.TypeIndex.{TypeIndex}
use Rattle.pdb_msf.specs.declared.faults.TheConstants.{NO_STREAM}
use Rattle.pdb_msf.specs.Faults.{◌>>=◌}
use Rattle.pdb_msf.specs.Msf.{Msf, stream_of}
use Rattle.pdb_tpi.specs.IdLeaves.{ids_of, no_ids}
use Rattle.pdb_tpi.specs.TypeLeaves.{types_of}
use Rattle.pdb_container.specs.Info.{features}

-- the types of a container, from the stream of types (TPI), number 2
unfoldable pub type_information : Msf → Result (ItemInformation TypeIndex TypeData) StreamError
type_information msf = stream_of msf 2 >>= types_of

-- the ids of a stream; without such a stream, an empty list
abbrev pub ids_in : Result (List ℕ) StreamError → Result (ItemInformation IdIndex IdData) StreamError
ids_in (Ok stream) = ids_of stream
ids_in (Err fault) = if fault.0 == NO_STREAM.0 then Ok no_ids else Err fault

-- the ids of a container, from the stream of ids (IPI), number 4, if the info stream, number 1, lists that there are
-- ids
unfoldable pub id_information : Msf → Result (ItemInformation IdIndex IdData) StreamError
id_information msf = if (features (stream_of msf 1)).ids then ids_in (stream_of msf 4) else Ok no_ids
