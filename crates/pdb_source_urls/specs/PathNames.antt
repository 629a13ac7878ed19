-- Names of files, in which letters from A to Z count as those from a to z.
use Rattle.std.specs.Prelude.{ℕ, ◌==◌, ◌&&◌, ◌||◌, Bool, true, false, List, [], ◌∷◌, length, if◌then◌else◌}
use Rattle.std.specs.Char.{to_ascii_lowercase}

-- whether a name begins with a path
abbrev pub begins_with : List ℕ → List ℕ → Bool
begins_with name [] = true
begins_with [] (byte ∷ path) = false
begins_with (letter ∷ name) (byte ∷ path) =
    (to_ascii_lowercase letter == to_ascii_lowercase byte) && begins_with name path

-- whether two names are the same
abbrev pub alike : List ℕ → List ℕ → Bool
alike name other = (length name == length other) && begins_with name other

-- whether a byte is a slash of either kind
abbrev pub is_slash : ℕ → Bool
is_slash byte = (byte == 47) || (byte == 92)

-- what follows the last slash of a text, or else this name
abbrev pub after_slashes : List ℕ → List ℕ → List ℕ
after_slashes [] name = name
after_slashes (byte ∷ path) name = after_slashes path (if is_slash byte then path else name)

-- what follows the last slash of a path; all where there is none
abbrev pub base_name : List ℕ → List ℕ
base_name path = after_slashes path path
