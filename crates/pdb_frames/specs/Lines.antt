-- The source line of an offset, and the name of its file.
use Rattle.std.specs.Prelude.{ℕ, List, [], Option, Some, None, Result, Ok}
use Rattle.std.specs.Prelude.{slice_get, nat_le, option_map, option_and_then}
use Rattle.pdb_records.specs.LinePrograms.{Lines}
use Rattle.pdb_records.specs.Lines.{lines_at}
use Rattle.pdb_records.specs.Readings.{Read}
use Rattle.pdb_records.specs.Strings.{string_at}
use Rattle.pdb_records.specs.declared.addresses.PdbInternalSectionOffset.{PdbInternalSectionOffset}
use Rattle.pdb_records.specs.declared.error.Error.TheVariants.{Stream}
use Rattle.pdb_records.specs.declared.lines.FileIndex.{FileIndex}
use Rattle.pdb_records.specs.declared.lines.LineInfo.{LineInfo}
use Rattle.pdb_records.specs.declared.strings.StringRef.{StringRef}
use Rattle.pdb_errors.specs.declared.error.Error.{Error}
use Rattle.pdb_errors.specs.declared.error.Error.TheVariants.{PdbError}
use Rattle.pdb_errors.specs.Outcomes.{unless, and_then}
use Rattle.pdb_tables.specs.Pick.{pick}
use Rattle.pdb_frames.specs.SourceFiles.{FileName, as_file_name}

-- the entries of a list; an error if the list ends with a fault
abbrev pub read_whole : {T : Type 0} → Read T → Result (List T) Error
read_whole list = unless (option_map (λ fault. PdbError (Stream fault)) list.fault) (Ok list.items)

-- the line rows of the function that starts at a section offset, in reading order. They are those of the first entry
-- for the section offset; without an entry there are none. An error if their list has a fault
abbrev pub function_rows : Lines → PdbInternalSectionOffset → Result (List LineInfo) Error
function_rows program start = rows_of_entry (lines_at start program.entries) where
  rows_of_entry : Option (Read LineInfo) → Result (List LineInfo) Error
  rows_of_entry None = Ok []
  rows_of_entry (Some rows) = read_whole rows

-- the row at an offset: the one with the greatest offset at or below it; of several at one offset, the first in reading
-- order
abbrev pub row_over : List LineInfo → ℕ → Option LineInfo
row_over rows x = pick (λ row. nat_le row.offset x) (λ row. row.offset) rows

-- the row at an offset of the function that starts at a section offset; an error if its rows have one
abbrev pub function_row : Lines → PdbInternalSectionOffset → ℕ → Result (Option LineInfo) Error
function_row program start x = and_then (function_rows program start) (λ rows. Ok (row_over rows x))

-- the name of a file of a module: the string under the reference that the file's record has. It is absent if there is
-- no string table, no such record, or no such string
abbrev pub file_name : Option (List (StringRef × List ℕ)) → Lines → FileIndex → Option FileName
file_name strings program index =
    option_and_then (λ table.
    option_and_then (λ file. option_map as_file_name (string_at file.name table)) (slice_get program.files index.0))
    strings
