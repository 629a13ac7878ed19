-- The records of a module.
use Rattle.std.specs.Prelude.{ℕ, Result, Ok, codes}
use Rattle.serde_json.specs.Data.{Data}
use Rattle.pdb_records.specs.Imports.{Imported}
use Rattle.pdb_records.specs.declared.modules.Inlinee.{Inlinee}
use Rattle.pdb_records.specs.declared.modules.ModuleInfo.{ModuleInfo}
use Rattle.pdb_json_values.specs.RecordFault.{Fault, ◌>>=◌}
use Rattle.pdb_json_values.specs.Values.{object_of}
use Rattle.pdb_json_values.specs.JsonNumbers.{u32_of}
use Rattle.pdb_json_records.specs.Members.{member_of, list_of, reading_of, stream_of}
use Rattle.pdb_json_records.specs.Symbols.{symbol_of, id_index_of}
use Rattle.pdb_json_records.specs.Lines.{line_program_of}
use Rattle.pdb_json_records.specs.Strings.{string_ref_of}

-- a function that is inlined in the module's code
unfoldable pub inlinee_of : Data → Result Inlinee Fault
inlinee_of d = do
  index ← id_index_of d
  Ok (record { index = index })

-- the module's imports from another one: a reference to that one's name, and the numbers there
unfoldable pub import_of : Data → Result Imported Fault
import_of d = do
  imported ← object_of d
  name ← member_of (codes "module") string_ref_of imported
  locals ← member_of (codes "locals") (list_of u32_of) imported
  Ok (record { module_name = name; locals = locals })

-- an export of the module: a number of its own, and the index of the type or id
unfoldable pub export_of : Data → Result (ℕ × ℕ) Fault
export_of d = do
  exported ← object_of d
  own ← member_of (codes "local") u32_of exported
  global ← member_of (codes "global") u32_of exported
  Ok (own, global)

-- the records of a module
unfoldable pub info_of : ℕ → Data → Result ModuleInfo Fault
info_of version d = do
  info ← object_of d
  symbols ← member_of (codes "symbols") (reading_of (symbol_of version)) info
  line_program ← member_of (codes "line_program") (stream_of line_program_of) info
  inlinees ← member_of (codes "inlinees") (reading_of inlinee_of) info
  imports ← member_of (codes "imports") (stream_of (list_of import_of)) info
  exports ← member_of (codes "exports") (stream_of (list_of export_of)) info
  Ok (record {
    symbols = symbols;
    line_program = line_program;
    inlinees = inlinees;
    imports = imports;
    exports = exports;
  })
