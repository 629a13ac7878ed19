-- Values of a records file, by their kinds.
use Rattle.std.specs.Prelude.{ℕ, List, [], Bool, Option, Some, None, Result, Ok, Err, codes}
use Rattle.std.specs.Borrow.{Bor}
use Rattle.serde_json.specs.Data.{Data, null, Items}
use Rattle.serde_json.specs.Find.{as_bool, as_str, as_array, as_object}
use Rattle.serde_json.specs.View.{view}
use Rattle.serde_json.specs.declared.value.Value.{Value}
use Rattle.pdb_json_values.specs.RecordFault.{Fault, shape, ◌>>=◌}

-- a value, or null if it is missing
abbrev pub found : Option (Bor Value) → Data
found None = null
found (Some value) = view value.now

-- the value, or a fault if it has the wrong kind
abbrev pub wanted : {X : Type 0} → List ℕ → Option X → Result X Fault
wanted sort None = Err (shape [] sort)
wanted sort (Some x) = Ok x

-- a boolean
unfoldable pub boolean_of : Data → Result Bool Fault
boolean_of d = wanted (codes "boolean") (as_bool d)

-- a text, as its bytes
unfoldable pub text_of : Data → Result (List ℕ) Fault
text_of d = wanted (codes "text") (as_str d)

-- the elements of an array
unfoldable pub array_of : Data → Result Items Fault
array_of d = wanted (codes "array") (as_array d)

-- an object
abbrev pub object_of : Data → Result Data Fault
object_of d = do
  members ← wanted (codes "object") (as_object d)
  Ok d
