-- Texts that several records share.
use Rattle.std.specs.Prelude.{ℕ, List, Result, Ok, codes}
use Rattle.serde_json.specs.Data.{Data}
use Rattle.pdb_records.specs.declared.strings.StringRef.{StringRef}
use Rattle.pdb_json_values.specs.RecordFault.{Fault, ◌>>=◌}
use Rattle.pdb_json_values.specs.Values.{object_of}
use Rattle.pdb_json_values.specs.JsonNumbers.{u32_of}
use Rattle.pdb_json_records.specs.NameValues.{name_of}
use Rattle.pdb_json_records.specs.Members.{member_of}

-- the key of a text
unfoldable pub string_ref_of : Data → Result StringRef Fault
string_ref_of d = do
  n ← u32_of d
  Ok (record { 0 = n })

-- a text with its key
unfoldable pub string_of : ℕ → Data → Result (StringRef × List ℕ) Fault
string_of version d = do
  entry ← object_of d
  key ← member_of (codes "ref") string_ref_of entry
  text ← member_of (codes "text") (name_of version) entry
  Ok (key, text)
