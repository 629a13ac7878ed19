-- The lines of an input, and the requests in them.
use Rattle.std.specs.Prelude.{◌≡◌, ◌≢◌, ℕ, List, [], ◌∷◌, ◌++◌, map, ◌==◌, if◌then◌else◌}
use Rattle.std.specs.Prelude.{Option, Some, None, IfSome, String, string_bytes}
use Rattle.std.specs.Global.{Global}
use Rattle.std.specs.Io.BufRead.{take_through, drop_through}
use Rattle.std.specs.Str.{is_utf8, trim}

-- lines with a byte before the first of them
abbrev pub in_front_of : ℕ → List (List ℕ) → List (List ℕ)
in_front_of byte [] = (byte ∷ []) ∷ []
in_front_of byte (line ∷ lines) = (byte ∷ line) ∷ lines

-- bytes split into lines, each with its line break; the last line may have none
abbrev pub split_lines : List ℕ → List (List ℕ)
split_lines [] = []
split_lines (byte ∷ bytes) =
    if byte == 10 then (byte ∷ []) ∷ split_lines bytes else in_front_of byte (split_lines bytes)

-- the text of a line; a line that isn't UTF-8 becomes a question mark
abbrev pub text_of_line : List ℕ → List ℕ
text_of_line line = if is_utf8 line then line else 63 ∷ []

-- the requests of an input, line by line: each line's text without the white space around it
abbrev pub asked_lines : List ℕ → List (List ℕ)
asked_lines bytes = map (λ line. trim (text_of_line line)) (split_lines bytes)

-- the request of a line that was read: its text without the white space around it
abbrev pub asked_by : String Global → List ℕ
asked_by line = trim (string_bytes line)

-- the requests in lines that were read, followed by those in the rest of the input. They are unknown if the rest is, or
-- if no line was read although the input has more
abbrev pub asked_in_turn : List (String Global) → Option (List ℕ) → Option (List (List ℕ))
asked_in_turn lines None = None
asked_in_turn [] (Some []) = Some []
asked_in_turn [] (Some (byte ∷ bytes)) = None
asked_in_turn (line ∷ lines) (Some bytes) = Some (map asked_by (line ∷ lines) ++ asked_lines bytes)

-- the first line of a known input was taken, and has this text; there is none only at the end of the input
abbrev pub GivesLine : Option (List ℕ) → Option (List ℕ) → Option (List ℕ) → Type 0
GivesLine before after None = IfSome before (λ bytes. (bytes ≡ []) × (after ≡ Some []))
GivesLine before after (Some text) = IfSome before (λ bytes. (bytes ≢ [])
    × (text ≡ text_of_line (take_through 10 bytes)) × (after ≡ Some (drop_through 10 bytes)))

-- lines begin with this one, if they are known
abbrev pub BeginWith : Option (List (List ℕ)) → List ℕ → Type 0
BeginWith lines line = IfSome lines (λ all. (rest : List (List ℕ)) × (all ≡ line ∷ rest))
