-- Names, and names of variants.
use Rattle.std.specs.Prelude.{ℕ, nat_eq, Bool, ◌&&◌, List, [], Option, Some, None, Result, Ok, Err, is_some, find}
use Rattle.std.specs.Prelude.{option_map, if◌then◌else◌, codes}
use Rattle.std.specs.Cmp.Lexicographic.{pointwise}
use Rattle.serde_json.specs.Data.{Data}
use Rattle.serde_json.specs.Find.{as_array}
use Rattle.pdb_json_values.specs.Versions.{has_names_in_bytes}
use Rattle.pdb_json_values.specs.RecordFault.{Fault, shape, ◌>>=◌}
use Rattle.pdb_json_values.specs.Values.{text_of}
use Rattle.pdb_json_values.specs.JsonNumbers.{u8_of}
use Rattle.pdb_json_records.specs.Members.{list_of}

-- a name: a text, or an array of bytes in a version that allows this
unfoldable pub name_of : ℕ → Data → Result (List ℕ) Fault
name_of version d = if is_some (as_array d) && has_names_in_bytes version then list_of u8_of d else text_of d

-- the fault for a kind whose name is unknown
abbrev pub unknown_kind : Fault
unknown_kind = shape (codes "/kind") (codes "kind")

-- whether a name is this one
abbrev pub is_name : List ℕ → List ℕ → Bool
is_name known name = pointwise nat_eq name known

module _ {X : Type 0} where
  -- the variant of the first entry with this name
  abbrev pub variant_named : List ℕ → List (List ℕ × X) → Option X
  variant_named name names = option_map (λ entry. entry.1) (find (λ entry. pointwise nat_eq entry.0 name) names)

  -- the variant, or a fault if the text names none
  abbrev pub known : Option X → Result X Fault
  known None = Err (shape [] (codes "kind"))
  known (Some variant) = Ok variant

  -- a text that names a variant
  unfoldable pub variant_of : List (List ℕ × X) → Data → Result X Fault
  variant_of names d = do
    name ← text_of d
    known (variant_named name names)
