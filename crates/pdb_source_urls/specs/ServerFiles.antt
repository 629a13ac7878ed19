-- The source files of source server data, and the position of the first one of each name.
use Rattle.std.specs.Prelude.{◌≡◌, ℕ, List, map, Option}
use Rattle.std.specs.BTreeMap.{BTreeMap, get}
use Rattle.std.specs.Cmp.Lexicographic.{slice_cmp}
use Rattle.std.specs.Global.{Vec}
use Rattle.std.specs.List.{position_from}
use Rattle.std.specs.Ordering.{nat_cmp}
use Rattle.std.specs.Str.{bytes_eq, str_to_ascii_lowercase}
use Rattle.pdb_source_urls.specs.TextCuts.{first_field}

-- a source file, by its name and its line
pub record File : Type 0 where
  pub name : List ℕ
  pub line : List ℕ

-- the source file of a line, whose first field is the name
abbrev pub file_of : List ℕ → File
file_of line = record { name = first_field line; line = line }

-- the source files of these lines
abbrev pub files_of : List (Vec ℕ) → List File
files_of lines = map (λ line. file_of line.items) lines

-- the position of the first source file whose name, in lower case, is this one
abbrev pub first_position : List ℕ → List File → Option ℕ
first_position lower files = position_from (λ file. bytes_eq (str_to_ascii_lowercase file.name) lower) 0 files

-- a table has the position of the first source file of each name, by the name in lower case
abbrev pub KnowsFirsts : BTreeMap (Vec ℕ) ℕ → List File → Type 0
KnowsFirsts positions files = (asked : Vec ℕ) → get (λ a b. slice_cmp nat_cmp a.items b.items) positions asked
    ≡ first_position asked.items files
