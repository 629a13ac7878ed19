-- The printed line of a function.
use Rattle.std.specs.Prelude.{ℕ, false, List, [], ◌∷◌, ◌++◌, codes, Option, Some, None}
use Rattle.std.specs.Fmt.{digits}
use Rattle.pdb_function_info.specs.Function.{FunctionInfo}

-- a number in hexadecimal digits
abbrev pub hex : ℕ → List ℕ
hex n = digits 16 false n

-- a name, if it is known
abbrev pub name_text : Option (List ℕ) → List ℕ
name_text None = codes "<unknown>"
name_text (Some name) = name

-- two question marks, for something unknown
abbrev pub unknown : List ℕ
unknown = 63 ∷ 63 ∷ []

-- an end, if it is known
abbrev pub end_text : Option ℕ → List ℕ
end_text None = unknown
end_text (Some address) = codes "0x" ++ hex address

-- the line of an address: its function, or that there is none
abbrev pub names_line : ℕ → Option FunctionInfo → List ℕ
names_line address (Some f) =
    codes "0x" ++ (hex address ++ (codes " - " ++ (name_text f.name
    ++ (codes " 0x" ++ (hex f.start_rva ++ (codes ".." ++ (end_text f.end_rva ++ codes "\n")))))))
names_line address None = hex address ++ codes " - no function found\n"

-- the line of a function in a list: its start, its end and its name
abbrev pub list_line : FunctionInfo → List ℕ
list_line f =
    codes "0x" ++ (hex f.start_rva ++ (codes ".." ++ (end_text f.end_rva
    ++ (codes " " ++ (name_text f.name ++ codes "\n")))))

-- the lines of functions, in order
abbrev pub list_text : List FunctionInfo → List ℕ
list_text [] = []
list_text (f ∷ fs) = list_line f ++ list_text fs
