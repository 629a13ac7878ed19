-- Ids.
use Rattle.std.specs.Prelude.{ℕ, List, Result, Ok, Err, if◌then◌else◌, codes}
use Rattle.serde_json.specs.Data.{Data}
use Rattle.pdb_records.specs.declared.types.TypeIndex.{TypeIndex}
use Rattle.pdb_records.specs.declared.ids.IdData.{IdData}
use Rattle.pdb_records.specs.declared.ids.IdData.TheVariants as held
use Rattle.pdb_records.specs.declared.ids.MemberFunctionId.{MemberFunctionId}
use Rattle.pdb_records.specs.declared.ids.FunctionId.{FunctionId}
use Rattle.pdb_records.specs.declared.ids.StringId.{StringId}
use Rattle.pdb_json_values.specs.RecordFault.{Fault, ◌>>=◌}
use Rattle.pdb_json_values.specs.Values.{object_of, text_of}
use Rattle.pdb_json_records.specs.NameValues.{name_of, unknown_kind, is_name}
use Rattle.pdb_json_records.specs.Members.{member_of, optional_of, list_of}
use Rattle.pdb_json_records.specs.Symbols.{type_index_of, id_index_of}
use Rattle.pdb_json_records.specs.Types.{kind_name_of}

-- the id of a method
unfoldable pub member_function_id_of : ℕ → Data → Result MemberFunctionId Fault
member_function_id_of version d = do
  parent ← member_of (codes "parent") type_index_of d
  function_type ← member_of (codes "function_type") type_index_of d
  name ← member_of (codes "name") (name_of version) d
  Ok (record { parent = parent; function_type = function_type; name = name })

-- the id of a function outside classes
unfoldable pub function_id_of : ℕ → Data → Result FunctionId Fault
function_id_of version d = do
  scope ← member_of (codes "scope") (optional_of id_index_of) d
  function_type ← member_of (codes "function_type") type_index_of d
  name ← member_of (codes "name") (name_of version) d
  Ok (record { scope = scope; function_type = function_type; name = name })

-- the id of a text, such as the name of a namespace
unfoldable pub string_id_of : ℕ → Data → Result StringId Fault
string_id_of version d = do
  name ← member_of (codes "name") (name_of version) d
  Ok (record { name = name })

-- the id of a text in pieces
unfoldable pub substrings_of : Data → Result (List TypeIndex) Fault
substrings_of d = member_of (codes "substrings") (list_of type_index_of) d

-- an id whose kind has this name
unfoldable pub id_named : ℕ → List ℕ → Data → Result IdData Fault
id_named version kind d =
    if is_name (codes "MemberFunction") kind
    then (member_function_id_of version d >>= λ said. Ok (held.MemberFunction said))
    else if is_name (codes "Function") kind then (function_id_of version d >>= λ said. Ok (held.Function said))
    else if is_name (codes "String") kind then (string_id_of version d >>= λ said. Ok (held.String said))
    else if is_name (codes "StringList") kind then (substrings_of d >>= λ said. Ok (held.StringList said))
    else if is_name (codes "Other") kind then (kind_name_of d >>= λ said. Ok (held.Other said))
    else Err unknown_kind

-- an id: its kind, and the members of that kind
unfoldable pub id_of : ℕ → Data → Result IdData Fault
id_of version d = do
  entry ← object_of d
  kind ← member_of (codes "kind") text_of entry
  id_named version kind entry
