-- Names of files without their folders.
use Rattle.std.specs.Prelude.{ℕ, List, ◌==◌}
use Rattle.std.specs.List.{after_last}

-- the text after the last occurrence of a byte; the whole text if there is none
abbrev pub after_last_byte : ℕ → List ℕ → List ℕ
after_last_byte character text = after_last (λ byte. byte == character) text

-- the name of a file without its folders: the text after the last slash and the last backslash
abbrev pub base_name : List ℕ → List ℕ
base_name file = after_last_byte 92 (after_last_byte 47 file)
