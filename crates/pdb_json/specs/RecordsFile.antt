-- The records of a file and of its module files.
use Rattle.std.specs.Prelude.{ℕ, ◌==◌, List, length, Option, Some, None, Result, Ok, Err, if◌then◌else◌, codes}
use Rattle.serde_json.specs.Data.{Data}
use Rattle.pdb_records.specs.Records.{Records}
use Rattle.pdb_json_values.specs.RecordFault.{Fault, not_json, module_files, ◌>>=◌}
use Rattle.pdb_json_values.specs.Values.{object_of}
use Rattle.pdb_json_records.specs.Members.{member_of}
use Rattle.pdb_json_records.specs.AllRecords.{shared_records_of}
use Rattle.pdb_json.specs.Json.{json_of}
use Rattle.pdb_json.specs.Versions.{file_version_of}
use Rattle.pdb_json.specs.ModuleFiles.{module_file_names_in_version}
use Rattle.pdb_json.specs.ModuleInfoValues.{infos_of}

-- all records of a file of this version and of its module files, or the first fault. The versions differ only in the
-- form of names (`name_of`) and in whether an element of `module_infos` may name a file (`stands_for_file`)
unfoldable pub records_in_version : ℕ → List (List ℕ) → Data → Result Records Fault
records_in_version version files file = do
  records ← shared_records_of version file
  infos ← member_of (codes "module_infos") (infos_of version files) file
  Ok (record records { module_infos = infos })

-- a result, if as many module files are given as wanted; otherwise a fault
abbrev pub counted : {X : Type 0} → (wanted given : ℕ) → Result X Fault → Result X Fault
counted wanted given read = if wanted == given then read else Err (module_files wanted given)

-- all records of a program: the names of its module files are read first, and then these are counted
unfoldable pub records_of : List (List ℕ) → Data → Result Records Fault
records_of files d = do
  file ← object_of d
  version ← file_version_of file
  names ← module_file_names_in_version version file
  counted (length names) (length files) (records_in_version version files file)

-- the result of reading a value; a fault if the text is no JSON
abbrev pub in_json : {X : Type 0} → (Data → Result X Fault) → Option Data → Result X Fault
in_json read None = Err not_json
in_json read (Some d) = read d

-- the value of a file's text, or the fault that it is no JSON text
abbrev pub value_of : List ℕ → Result Data Fault
value_of bytes = in_json Ok (json_of bytes)

-- the records in a file and its module files, or the first fault in them
unfoldable pub records_of_files : List ℕ → List (List ℕ) → Result Records Fault
records_of_files bytes files = do
  value ← value_of bytes
  records_of files value

-- the names of the module files that a value wants
unfoldable pub wanted_files_of : Data → Result (List (List ℕ)) Fault
wanted_files_of d = do
  file ← object_of d
  version ← file_version_of file
  module_file_names_in_version version file

-- the names of the module files that a file wants, in reading order; or the first fault if they can't be read
unfoldable pub module_files_of : List ℕ → Result (List (List ℕ)) Fault
module_files_of bytes = do
  value ← value_of bytes
  wanted_files_of value
