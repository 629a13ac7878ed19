-- The module files that a records file names.
use Rattle.std.specs.Prelude.{ℕ, ◌+◌, ◌&&◌, not, Bool, List, [], ◌∷◌, Option, Some, None, Result, Ok}
use Rattle.std.specs.Prelude.{decimal, if◌then◌else◌, codes, map, Vec}
use Rattle.std.specs.declared.alloc.Global.{Global}
use Rattle.serde_json.specs.Data.{Data, Items, no_items, item}
use Rattle.pdb_json_values.specs.Versions.{has_module_files}
use Rattle.pdb_json_values.specs.RecordFault.{Fault, ◌>>=◌, read_inside}
use Rattle.pdb_json_values.specs.Values.{text_of, array_of}
use Rattle.pdb_json_records.specs.Members.{has, member_of}

-- the contents of files, as bytes
abbrev pub contents : List (Vec ℕ Global) → List (List ℕ)
contents files = map (λ file. file.items) files

-- whether an element of `module_infos` names a module file: it has the name of one, and no error
abbrev pub stands_for_file : ℕ → Data → Bool
stands_for_file version d =
    has (codes "file") d && (not (has (codes "error") d) && has_module_files version)

-- the name of the module file in an element, if it has one
unfoldable pub module_file_name_of : ℕ → Data → Result (Option (List ℕ)) Fault
module_file_name_of version d =
    if stands_for_file version d
    then (member_of (codes "file") text_of d >>= λ name. Ok (Some name))
    else Ok None

-- a list of names, after one more if there is one
abbrev pub with_name : Option (List ℕ) → List (List ℕ) → List (List ℕ)
with_name None names = names
with_name (Some name) names = name ∷ names

-- the names of module files in elements; the first element has this number
abbrev pub module_file_names_from : ℕ → ℕ → Items → Result (List (List ℕ)) Fault
module_file_names_from version number no_items = Ok []
module_file_names_from version number (item d ds) = do
  name ← read_inside (decimal number) (module_file_name_of version d)
  names ← module_file_names_from version (number + 1) ds
  Ok (with_name name names)

-- the names of the module files in the elements of an array, in order
unfoldable pub module_file_names_of : ℕ → Data → Result (List (List ℕ)) Fault
module_file_names_of version d = do
  ds ← array_of d
  module_file_names_from version 0 ds

-- the names of the module files in a file of this version; none in the first version, whatever the file has
unfoldable pub module_file_names_in_version : ℕ → Data → Result (List (List ℕ)) Fault
module_file_names_in_version version file =
    if has_module_files version then member_of (codes "module_infos") (module_file_names_of version) file else Ok []
