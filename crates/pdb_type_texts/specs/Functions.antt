-- Functions: their return types and arguments. The list `inside` has the indices of types that are open.
use Rattle.std.specs.Prelude.{◌||◌, ℕ, Bool, List, [], ◌∷◌, Option, Some, None, codes, if◌then◌else◌}
use Rattle.pdb_records.specs.declared.types.TypeIndex.{TypeIndex}
use Rattle.pdb_type_texts.specs.FlagTests.{without_return_type, without_arguments}
use Rattle.pdb_type_texts.specs.Wording.{comma}
use Rattle.pdb_type_texts.specs.PrintInputs.{PrintInputs}
use Rattle.pdb_type_texts.specs.Plans.{Index, Plan, Later, ◌▸◌, written}

-- the return type of a function, unless it isn't printed
abbrev pub unless_left_out : Bool → Option TypeIndex → Option TypeIndex
unless_left_out left_out index = if left_out then None else index

-- the return type of a function with a space after it; empty if there is none to print
abbrev pub returned : List ℕ → Option TypeIndex → Plan
returned inside None = written []
returned inside (Some index) = Later inside (Index index.0) ▸ written (codes " ")

-- the return type of a function that is printed by itself; not printed for a constructor, and if the flags say so
abbrev pub returned_if_wanted : PrintInputs → List ℕ → Bool → Option TypeIndex → Plan
returned_if_wanted w inside constructor index =
    returned inside (unless_left_out (constructor || without_return_type w.flags) index)

-- further types, each after a separator
abbrev pub further_types : List ℕ → List ℕ → List TypeIndex → Plan
further_types separator inside [] = written []
further_types separator inside (next ∷ rest) =
    written separator ▸ Later inside (Index next.0) ▸ further_types separator inside rest

-- types, with a separator between them
abbrev pub types_between : List ℕ → List ℕ → List TypeIndex → Plan
types_between separator inside [] = written []
types_between separator inside (next ∷ rest) = Later inside (Index next.0) ▸ further_types separator inside rest

-- a list of arguments, with commas between them
abbrev pub list_of_arguments : PrintInputs → List ℕ → List TypeIndex → Plan
list_of_arguments w inside list = types_between (comma w.flags) inside list

-- a function's arguments in parentheses, unless functions are printed without them
abbrev pub function_arguments : PrintInputs → List ℕ → TypeIndex → Plan
function_arguments w inside list =
    if without_arguments w.flags then written []
    else written (codes "(") ▸ Later inside (Index list.0) ▸ written (codes ")")
