-- The records that give names their numbers.
use Rattle.std.specs.Prelude.{ℕ, ◌+◌, List, [], ◌∷◌, ◌++◌, codes}
use Rattle.std.specs.Fmt.{decimal}
use Rattle.pdb_breakpad.specs.FunctionTexts.{name_line}
use Rattle.pdb_breakpad.specs.declared.record_numbers.NameKind.{NameKind}
use Rattle.pdb_breakpad.specs.declared.record_numbers.NameKind.TheVariants.{File, InlineOrigin}

-- the keyword of a name's record
abbrev pub keyword : NameKind → List ℕ
keyword File = codes "FILE "
keyword InlineOrigin = codes "INLINE_ORIGIN "

-- the record of a name: its keyword, its number, and the name
unfoldable pub name_record : List ℕ → ℕ → List ℕ → List ℕ
name_record start number name = start ++ (decimal number ++ (codes " " ++ name_line name))

-- the records of names, numbered from `number` on
abbrev pub name_records : List ℕ → ℕ → List (List ℕ) → List ℕ
name_records start number [] = []
name_records start number (name ∷ names) = name_record start number name ++ name_records start (number + 1) names
