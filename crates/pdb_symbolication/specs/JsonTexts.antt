-- Texts in quotation marks, as JSON writes them.
use Rattle.std.specs.Prelude.{ℕ, ◌/◌, ◌%◌, false, List, [], ◌∷◌, ◌++◌, codes, encode_utf8, nat_lt, ◌==◌, if◌then◌else◌}
use Rattle.std.specs.Fmt.{digits}
use Rattle.std.specs.List.{flat_map}
use Rattle.std.specs.Str.{chars}

-- a quotation mark, `"`
abbrev pub quotation_mark : List ℕ
quotation_mark = 34 ∷ []

-- a control character: `\u00` and its number in two hexadecimal digits
abbrev pub control_character : ℕ → List ℕ
control_character c = codes "\\u00" ++ (digits 16 false (c / 16) ++ digits 16 false (c % 16))

-- a character of a text: `\"`, `\\`, `\t`, `\n` and `\r` for the quotation mark, the backslash, the tab and the ends of
-- lines; below 32 as a control character; and else itself
abbrev pub quoted_character : ℕ → List ℕ
quoted_character c =
    if c == 34 then 92 ∷ 34 ∷ []
    else (if c == 92 then 92 ∷ 92 ∷ []
    else (if c == 9 then codes "\\t"
    else (if c == 10 then codes "\\n"
    else (if c == 13 then codes "\\r"
    else (if nat_lt c 32 then control_character c
    else encode_utf8 c)))))

-- a text: its characters between quotation marks
abbrev pub quoted : List ℕ → List ℕ
quoted text = quotation_mark ++ (flat_map quoted_character (chars text) ++ quotation_mark)
