-- The names of files, by their references.
use Rattle.std.specs.Prelude.{◌≡◌, ℕ, List, Option, Some, IfSome, option_map, option_and_then}
use Rattle.std.specs.List.{All}
use Rattle.std.specs.BTreeMap.{BTreeMap, get}
use Rattle.std.specs.Ordering.{nat_cmp}
use Rattle.std.specs.declared.borrow.CowStr.{CowStr}
use Rattle.pdb_records.specs.Strings.{string_at}
use Rattle.pdb_records.specs.declared.strings.StringRef.{StringRef}
use Rattle.pdb_frames.specs.SourceFiles.{FileName, file_name_of, as_file_name, borrowed_name}
use Rattle.pdb_frames.specs.declared.lent_names.LentName.{LentName}

-- the texts of a string table by their references, if there is one
abbrev pub Strings : Type 0
Strings = Option (List (StringRef × List ℕ))

-- the name under the reference with this number, if there is a string table and it has one
abbrev pub name_under : Strings → ℕ → Option FileName
name_under strings number =
    option_and_then (λ table. option_map as_file_name (string_at (record { 0 = number }) table)) strings

-- a table has each of these names under the number of its reference
abbrev pub KnowsNames : {Z : Type 0} → Strings → BTreeMap ℕ (CowStr Z) → Type 0
KnowsNames strings names =
    (number : ℕ) → option_map file_name_of (get nat_cmp names number) ≡ name_under strings number

-- a lent name is the name under its number, and borrowed
abbrev pub IsLent : Strings → Option LentName → Type 0
IsLent strings slot = IfSome slot (λ lent. name_under strings lent.number ≡ Some (borrowed_name lent.name.now))

-- each lent name is the name under its number, and borrowed
unfoldable pub AreLent : Strings → List (Option LentName) → Type 0
AreLent strings slots = All (IsLent strings) slots
