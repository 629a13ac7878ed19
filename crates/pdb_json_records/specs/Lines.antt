-- The source lines of a module's code.
use Rattle.std.specs.Prelude.{Result, Ok, codes}
use Rattle.serde_json.specs.Data.{Data}
use Rattle.pdb_records.specs.LinePrograms.{Lines}
use Rattle.pdb_records.specs.declared.lines.LineInfo.{LineInfo}
use Rattle.pdb_records.specs.declared.lines.SymbolLines.{SymbolLines}
use Rattle.pdb_records.specs.declared.lines.FileInfo.{FileInfo}
use Rattle.pdb_json_values.specs.RecordFault.{Fault, ◌>>=◌}
use Rattle.pdb_json_values.specs.Values.{object_of}
use Rattle.pdb_json_values.specs.JsonNumbers.{u32_of}
use Rattle.pdb_json_records.specs.Members.{member_of, list_of, reading_of}
use Rattle.pdb_json_records.specs.Sections.{section_offset_of}
use Rattle.pdb_json_records.specs.Symbols.{file_index_of}
use Rattle.pdb_json_records.specs.Strings.{string_ref_of}

-- a line row: the code from an offset on belongs to a line
unfoldable pub line_info_of : Data → Result LineInfo Fault
line_info_of d = do
  line ← object_of d
  offset ← member_of (codes "offset") u32_of line
  file_index ← member_of (codes "file_index") file_index_of line
  line_start ← member_of (codes "line_start") u32_of line
  Ok (record { offset = offset; file_index = file_index; line_start = line_start })

-- the line rows of the function that starts at a section offset
unfoldable pub symbol_lines_of : Data → Result SymbolLines Fault
symbol_lines_of d = do
  entry ← object_of d
  offset ← section_offset_of (codes "section") (codes "offset") entry
  lines ← member_of (codes "lines") (reading_of line_info_of) entry
  Ok (record { offset = offset; lines = lines })

-- a source file, as the reference to its name
unfoldable pub file_info_of : Data → Result FileInfo Fault
file_info_of d = do
  name ← string_ref_of d
  Ok (record { name = name })

-- the line rows, function by function, and the files that they name
unfoldable pub line_program_of : Data → Result Lines Fault
line_program_of d = do
  program ← object_of d
  entries ← member_of (codes "entries") (list_of symbol_lines_of) program
  files ← member_of (codes "files") (list_of file_info_of) program
  Ok (record { entries = entries; files = files })
