-- The version of a file.
use Rattle.std.specs.Prelude.{ℕ, ◌==◌, [], Option, Some, None, Result, Ok, Err, unwrap_or, if◌then◌else◌, codes}
use Rattle.serde_json.specs.Data.{Data}
use Rattle.serde_json.specs.Find.{as_number, as_u64}
use Rattle.pdb_json_values.specs.RecordFault.{Fault, shape, ◌>>=◌}
use Rattle.pdb_json_values.specs.Values.{wanted}
use Rattle.pdb_json_records.specs.Members.{member_of, optional_of}

-- the version for a number: 1 is the first, and 2 the second
abbrev pub numbered : Option ℕ → Result ℕ Fault
numbered None = Err (shape [] (codes "1 or 2"))
numbered (Some n) = if n == 1 then Ok 1 else if n == 2 then Ok 2 else Err (shape [] (codes "1 or 2"))

-- a version of the format
unfoldable pub version_of : Data → Result ℕ Fault
version_of d = do
  number ← wanted (codes "number") (as_number d)
  numbered (as_u64 number)

-- the version of a file: the one in its member, or the first if it has none
unfoldable pub file_version_of : Data → Result ℕ Fault
file_version_of file = do
  named ← member_of (codes "version") (optional_of version_of) file
  Ok (unwrap_or named 1)
