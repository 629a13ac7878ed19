-- Texts, cut at the first byte of a kind.
use Rattle.std.specs.Prelude.{ℕ, ◌+◌, ◌==◌, List, [], ◌∷◌, drop, take, Option, Some, None, option_map, if◌then◌else◌}
use Rattle.std.specs.Option.{option_map_or}

-- the position of the first such byte in a text, if there is one
abbrev pub place_of : ℕ → List ℕ → Option ℕ
place_of stop [] = None
place_of stop (byte ∷ text) = if byte == stop then Some 0 else option_map (λ place. place + 1) (place_of stop text)

-- the parts of a text before and after the byte at a position
abbrev pub around : List ℕ → ℕ → List ℕ × List ℕ
around text place = (take place text, drop (place + 1) text)

-- the parts of a text before and after the first such byte, if it has one
abbrev pub cut_at : ℕ → List ℕ → Option (List ℕ × List ℕ)
cut_at stop text = option_map (around text) (place_of stop text)

-- the first field of a line; there is a `*` between fields
abbrev pub first_field : List ℕ → List ℕ
first_field line = option_map_or (λ cut. cut.0) (cut_at 42 line) line
