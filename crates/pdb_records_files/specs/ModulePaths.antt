-- The paths of module files.
use Rattle.std.specs.Prelude.{ℕ, ◌==◌, List, [], ◌∷◌, ◌++◌, Option, Some, None, slice_index, if◌then◌else◌}
use Rattle.std.specs.Path.{slash, rsplit_once}

-- the part of a path up to and including its last slash, by the parts before and after that slash
abbrev pub folder_before : Option (List ℕ × List ℕ) → List ℕ
folder_before None = []
folder_before (Some split) = split.0 ++ slash ∷ []

-- the part of a path up to and including its last slash
unfoldable pub folder_of : List ℕ → List ℕ
folder_of path = folder_before (rsplit_once slash path)

-- the path of the module file with this name: a name that begins with a slash is the path itself; any other is relative
-- to the folder of the records file
abbrev pub module_path : List ℕ → List ℕ → List ℕ
module_path records_path name = if slice_index name 0 == slash then name else folder_of records_path ++ name
