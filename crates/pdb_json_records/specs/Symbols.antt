-- Symbols.
use Rattle.std.specs.Prelude.{ℕ, List, Result, Ok, Err, if◌then◌else◌, codes}
use Rattle.serde_json.specs.Data.{Data}
use Rattle.pdb_records.specs.declared.ids.IdIndex.{IdIndex}
use Rattle.pdb_records.specs.declared.types.TypeIndex.{TypeIndex}
use Rattle.pdb_records.specs.declared.lines.FileIndex.{FileIndex}
use Rattle.pdb_records.specs.declared.symbols.SymbolTable.{SymbolTable}
use Rattle.pdb_records.specs.declared.symbols.SymbolIndex.{SymbolIndex}
use Rattle.pdb_records.specs.declared.symbols.Symbol.{Symbol}
use Rattle.pdb_records.specs.declared.symbols.SymbolData.{SymbolData}
use Rattle.pdb_records.specs.declared.symbols.SymbolData.TheVariants as held
use Rattle.pdb_records.specs.declared.symbols.PublicSymbol.{PublicSymbol}
use Rattle.pdb_records.specs.declared.symbols.ProcedureSymbol.{ProcedureSymbol}
use Rattle.pdb_records.specs.declared.symbols.SeparatedCodeSymbol.{SeparatedCodeSymbol}
use Rattle.pdb_records.specs.declared.symbols.ThunkSymbol.{ThunkSymbol}
use Rattle.pdb_records.specs.declared.symbols.InlineSiteSymbol.{InlineSiteSymbol}
use Rattle.pdb_records.specs.declared.symbols.InlineRow.{InlineRow}
use Rattle.pdb_json_values.specs.RecordFault.{Fault, ◌>>=◌}
use Rattle.pdb_json_values.specs.Values.{object_of, text_of}
use Rattle.pdb_json_values.specs.JsonNumbers.{u16_of, u32_of}
use Rattle.pdb_json_records.specs.NameValues.{name_of, unknown_kind, is_name}
use Rattle.pdb_json_records.specs.Members.{member_of, optional_of, reading_of}
use Rattle.pdb_json_records.specs.Sections.{section_offset_of}

-- the number of a type
unfoldable pub type_index_of : Data → Result TypeIndex Fault
type_index_of d = do
  n ← u32_of d
  Ok (record { 0 = n })

-- the number of an id
unfoldable pub id_index_of : Data → Result IdIndex Fault
id_index_of d = do
  n ← u32_of d
  Ok (record { 0 = n })

-- a position in a list of files
unfoldable pub file_index_of : Data → Result FileIndex Fault
file_index_of d = do
  n ← u32_of d
  Ok (record { 0 = n })

-- a position in a list of symbols
unfoldable pub symbol_index_of : Data → Result SymbolIndex Fault
symbol_index_of d = do
  n ← u32_of d
  Ok (record { 0 = n })

-- a public symbol
unfoldable pub public_of : ℕ → Data → Result PublicSymbol Fault
public_of version d = do
  offset ← section_offset_of (codes "section") (codes "offset") d
  name ← member_of (codes "name") (name_of version) d
  Ok (record { offset = offset; name = name })

-- a procedure
unfoldable pub procedure_of : ℕ → Data → Result ProcedureSymbol Fault
procedure_of version d = do
  offset ← section_offset_of (codes "section") (codes "offset") d
  len ← member_of (codes "len") u32_of d
  name ← member_of (codes "name") (name_of version) d
  end ← member_of (codes "end") symbol_index_of d
  type_index ← member_of (codes "type_index") type_index_of d
  Ok (record { offset = offset; len = len; name = name; end = end; type_index = type_index })

-- separated code of a procedure
unfoldable pub separated_code_of : Data → Result SeparatedCodeSymbol Fault
separated_code_of d = do
  offset ← section_offset_of (codes "section") (codes "offset") d
  len ← member_of (codes "len") u32_of d
  parent_offset ← section_offset_of (codes "parent_section") (codes "parent_offset") d
  end ← member_of (codes "end") symbol_index_of d
  Ok (record { offset = offset; len = len; parent_offset = parent_offset; end = end })

-- a thunk: short code that jumps to a procedure
unfoldable pub thunk_of : ℕ → Data → Result ThunkSymbol Fault
thunk_of version d = do
  offset ← section_offset_of (codes "section") (codes "offset") d
  len ← member_of (codes "len") u16_of d
  name ← member_of (codes "name") (name_of version) d
  end ← member_of (codes "end") symbol_index_of d
  Ok (record { offset = offset; len = len; name = name; end = end })

-- a row of an inline site: a range of code, with its file and line
unfoldable pub row_of : Data → Result InlineRow Fault
row_of d = do
  row ← object_of d
  offset ← member_of (codes "offset") u32_of row
  length ← member_of (codes "length") (optional_of u32_of) row
  file_index ← member_of (codes "file_index") file_index_of row
  line_start ← member_of (codes "line_start") u32_of row
  Ok (record { offset = offset; length = length; file_index = file_index; line_start = line_start })

-- an inline site: a place where a call was replaced by the callee's body
unfoldable pub inline_site_of : Data → Result InlineSiteSymbol Fault
inline_site_of d = do
  inlinee ← member_of (codes "inlinee") id_index_of d
  end ← member_of (codes "end") symbol_index_of d
  rows ← member_of (codes "rows") (reading_of row_of) d
  Ok (record { inlinee = inlinee; end = end; rows = rows })

-- the content of a symbol whose kind has this name
unfoldable pub data_named : ℕ → List ℕ → Data → Result SymbolData Fault
data_named version kind d =
    if is_name (codes "Public") kind then (public_of version d >>= λ symbol. Ok (held.Public symbol))
    else if is_name (codes "Procedure") kind then (procedure_of version d >>= λ symbol. Ok (held.Procedure symbol))
    else if is_name (codes "SeparatedCode") kind then (separated_code_of d >>= λ symbol. Ok (held.SeparatedCode symbol))
    else if is_name (codes "Thunk") kind then (thunk_of version d >>= λ symbol. Ok (held.Thunk symbol))
    else if is_name (codes "InlineSite") kind then (inline_site_of d >>= λ symbol. Ok (held.InlineSite symbol))
    else if is_name (codes "Other") kind then Ok held.Other
    else Err unknown_kind

-- the content of a symbol: its kind, and the members of that kind
unfoldable pub data_of : ℕ → Data → Result SymbolData Fault
data_of version d = do
  symbol ← object_of d
  kind ← member_of (codes "kind") text_of symbol
  data_named version kind symbol

-- a symbol: the number of its kind, and its content if that could be read
unfoldable pub symbol_of : ℕ → Data → Result Symbol Fault
symbol_of version d = do
  symbol ← object_of d
  raw_kind ← member_of (codes "raw_kind") u16_of symbol
  content ← member_of (codes "data") (optional_of (data_of version)) symbol
  Ok (record { raw_kind = raw_kind; content = content })

-- the global symbols
unfoldable pub symbol_table_of : ℕ → Data → Result SymbolTable Fault
symbol_table_of version d = do
  symbols ← reading_of (symbol_of version) d
  Ok (record { symbols = symbols })
