-- The names of source files, as text.
use Rattle.std.specs.Prelude.{ℕ, List, Bool, true, Option, option_map}
use Rattle.std.specs.Cow.{cow_str_bytes}
use Rattle.std.specs.Str.{is_utf8}
use Rattle.std.specs.declared.borrow.CowStr.{CowStr}
use Rattle.pdb_records.specs.Names.{lossy, is_borrowed}

-- the name of a source file as text, and whether it is borrowed from the records or a copy
pub record FileName : Type 0 where
  pub text : List ℕ
  pub is_borrowed : Bool

-- the text of a file name, if there is one
abbrev pub known_text : Option FileName → Option (List ℕ)
known_text name = option_map (λ n. n.text) name

-- the model of a file name
abbrev pub file_name_of : {Z : Type 0} → CowStr Z → FileName
file_name_of name = record { text = cow_str_bytes name; is_borrowed = is_borrowed name }

-- the file name for a name in the records: borrowed if it is UTF-8, otherwise a copy with U+FFFD for each invalid
-- sequence
abbrev pub as_file_name : List ℕ → FileName
as_file_name bytes = record { text = lossy bytes; is_borrowed = is_utf8 bytes }

-- a file name that is borrowed from the records
abbrev pub borrowed_name : List ℕ → FileName
borrowed_name text = record { text = text; is_borrowed = true }
