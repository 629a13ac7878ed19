-- The first version of the format, defined by itself: names are texts, and there are no module files.
use Rattle.std.specs.Prelude.{◌≡◌, ℕ, List, Result, Ok, codes}
use Rattle.serde_json.specs.Data.{Data}
use Rattle.pdb_records.specs.Records.{Records}
use Rattle.pdb_json_values.specs.RecordFault.{Fault, ◌>>=◌}
use Rattle.pdb_json_values.specs.Values.{object_of}
use Rattle.pdb_json_records.specs.Members.{member_of, optional_of, list_of, stream_of}
use Rattle.pdb_json_records.specs.Modules.{info_of}
use Rattle.pdb_json_records.specs.AllRecords.{shared_records_of}
use Rattle.pdb_json.specs.Json.{json_of}
use Rattle.pdb_json.specs.Versions.{file_version_of}
use Rattle.pdb_json.specs.RecordsFile.{in_json}

-- all records of an object that is a file of the first version
abbrev pub first_records_of_object : Data → Result Records Fault
first_records_of_object file = do
  records ← shared_records_of 1 file
  infos ← member_of (codes "module_infos") (list_of (stream_of (optional_of (info_of 1)))) file
  Ok (record records { module_infos = infos })

-- all records of a value that is a file of the first version
abbrev pub first_records_in : Data → Result Records Fault
first_records_in d = do
  file ← object_of d
  first_records_of_object file

-- the records in the bytes of a file of the first version, or the first fault
abbrev pub first_records_of_file : List ℕ → Result Records Fault
first_records_of_file bytes = in_json first_records_in (json_of bytes)

-- the version of a value
abbrev pub version_in : Data → Result ℕ Fault
version_in d = do
  file ← object_of d
  file_version_of file

-- the bytes are a text of the first version: an object without a version, or with the first
abbrev pub IsFirst : List ℕ → Type 0
IsFirst bytes = in_json version_in (json_of bytes) ≡ Ok 1
