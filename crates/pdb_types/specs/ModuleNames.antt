-- Modules by their names.
use Rattle.std.specs.Prelude.{◌≡◌, ◌+◌, ℕ, Bool, List, [], ◌∷◌, Option, Some, None, if◌then◌else◌, String}
use Rattle.std.specs.Option.{option_or}
use Rattle.std.specs.Str.{bytes_eq, str_to_ascii_lowercase}
use Rattle.std.specs.BTreeMap.{BTreeMap, get_by_text}
use Rattle.pdb_records.specs.Names.{lossy}
use Rattle.pdb_records.specs.declared.debug_information.Module.{Module}

-- whether a module has this name, read as text with its ASCII letters in lower case
abbrev pub has_lower_name : List ℕ → Module → Bool
has_lower_name lower m = bytes_eq (str_to_ascii_lowercase (lossy m.name)) lower

-- whether a module has this name; both are read as text, and the case of ASCII letters doesn't count
abbrev pub is_named : List ℕ → Module → Bool
is_named name m = has_lower_name (str_to_ascii_lowercase (lossy name)) m

-- the greatest module index of a module that passes the test; `module_index` is that of the first module
abbrev pub last_position_from : {A : Type 0} → ℕ → (A → Bool) → List A → Option ℕ
last_position_from module_index test [] = None
last_position_from module_index test (x ∷ xs) =
    option_or (last_position_from (module_index + 1) test xs) (if test x then Some module_index else None)

-- a table has the greatest module index for each name
abbrev pub KnowsPositions : {Y : Type 0} → List Module → BTreeMap (String Y) ℕ → Type 0
KnowsPositions modules positions =
    (lower : List ℕ) → get_by_text positions lower ≡ last_position_from 0 (has_lower_name lower) modules
