-- Names of modules that can't lead outside a folder.
use Rattle.std.specs.Prelude.{ℕ, List, Bool, ◌==◌, ◌&&◌, ◌||◌, not, codes}
use Rattle.std.specs.List.{list_all}
use Rattle.std.specs.Str.{bytes_eq}

-- whether a byte is neither a slash of either kind, nor a colon, nor zero
abbrev pub is_plain : ℕ → Bool
is_plain byte = not (byte == 47 || byte == 92 || byte == 58 || byte == 0)

-- whether a name isn't empty, `.` or `..`, and all its bytes are plain
abbrev pub is_harmless : List ℕ → Bool
is_harmless name =
    not (bytes_eq name (codes "") || bytes_eq name (codes ".") || bytes_eq name (codes "..")) && list_all is_plain name
