-- Objects and arrays, as JSON writes them with nothing between their parts.
use Rattle.std.specs.Prelude.{ℕ, Bool, false, List, [], ◌∷◌, ◌++◌, codes, if◌then◌else◌}
use Rattle.std.specs.Fmt.{digits}
use Rattle.pdb_symbolication.specs.JsonTexts.{quotation_mark}

-- the text before a value: a comma, unless it is the first
abbrev pub comma_before : Bool → List ℕ
comma_before first = if first then [] else codes ","

-- values after others, each with a comma before it
abbrev pub later : List (List ℕ) → List ℕ
later [] = []
later (value ∷ values) = codes "," ++ (value ++ later values)

-- values with commas between them
abbrev pub separated : List (List ℕ) → List ℕ
separated [] = []
separated (value ∷ values) = value ++ later values

-- a member of an object: its name in quotation marks, a colon and its value
abbrev pub member : List ℕ → List ℕ → List ℕ
member name value = quotation_mark ++ (name ++ (quotation_mark ++ (codes ":" ++ value)))

-- an object of these members
abbrev pub object : List (List ℕ) → List ℕ
object members = codes "{" ++ (separated members ++ codes "}")

-- an array of these values
abbrev pub array : List (List ℕ) → List ℕ
array values = codes "[" ++ (separated values ++ codes "]")

-- a number in hexadecimal digits after `0x`, as a text
abbrev pub hexadecimal : ℕ → List ℕ
hexadecimal number = codes "\"0x" ++ (digits 16 false number ++ quotation_mark)
