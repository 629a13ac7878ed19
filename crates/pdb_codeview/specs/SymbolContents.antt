-- Symbols: the fields of each kind that is read. Offsets count from after reclen and rectyp.
use Rattle.std.specs.Prelude.{ℕ, ◌==◌, ◌||◌, nat_lt, List, [], ◌∷◌, drop, length, map, Option, Some, None, option_map}
use Rattle.std.specs.Prelude.{if◌then◌else◌}
use Rattle.pdb_records.specs.Readings.{Read}
use Rattle.pdb_records.specs.SymbolKinds.{is_procedure_kind, is_public_kind, s_inlinesite, s_inlinesite2, s_sepcode}
use Rattle.pdb_records.specs.SymbolKinds.{s_thunk32, s_thunk32_st}
use Rattle.pdb_records.specs.declared.symbols.Symbol.{Symbol}
use Rattle.pdb_records.specs.declared.symbols.SymbolData.{SymbolData}
use Rattle.pdb_records.specs.declared.symbols.SymbolData.TheVariants.{InlineSite, Other, Procedure, Public}
use Rattle.pdb_records.specs.declared.symbols.SymbolData.TheVariants.{SeparatedCode, Thunk}
use Rattle.pdb_records.specs.declared.types.TypeIndex.{TypeIndex}
use Rattle.pdb_msf.specs.NumberLists.{number, two_byte_number}
use Rattle.pdb_codeview.specs.declared.chunks.CodePlace.{CodePlace}
use Rattle.pdb_codeview.specs.Chunks.{chunk_start}
use Rattle.pdb_codeview.specs.InlineSites.{ModuleCode, site_rows}
use Rattle.pdb_codeview.specs.SymbolKinds.{is_itanium_kind, is_managed_kind, recorded_kind, s_trampoline}
use Rattle.pdb_codeview.specs.SymbolRecords.{SymbolBytes, name_behind, position_at, section_offset, symbol_records}

-- a public symbol (PUBSYM32): off at 4, seg at 8, and the name at 10
abbrev pub public_symbol : SymbolBytes → Option SymbolData
public_symbol symbol = option_map (λ name. Public (record {
  offset = section_offset 4 8 symbol.content;
  name = name;
})) (name_behind 10 symbol)

-- the offset of the name in a procedure of this kind: 35 (PROCSYM32), or 37 in code for Itanium (PROCSYMIA64) and in
-- managed code (MANPROCSYM), which also have retReg
abbrev pub procedure_name_place : ℕ → ℕ
procedure_name_place raw_kind = if is_itanium_kind raw_kind || is_managed_kind raw_kind then 37 else 35

-- the type of a procedure: typind at 24. Managed code has a token there, so its type is 0, no type
abbrev pub procedure_type : SymbolBytes → TypeIndex
procedure_type symbol =
    if is_managed_kind symbol.raw_kind then record { 0 = 0 } else record { 0 = number (drop 24 symbol.content) }

-- a procedure in a list of symbols (PROCSYM32, PROCSYMIA64 and MANPROCSYM): pEnd at 4, len at 12, its type, off at 28,
-- seg at 32, and the name
abbrev pub procedure : List SymbolBytes → SymbolBytes → Option SymbolData
procedure symbols symbol = option_map (λ name. Procedure (record {
  offset = section_offset 28 32 symbol.content;
  len = number (drop 12 symbol.content);
  name = name;
  end = position_at symbols (number (drop 4 symbol.content));
  type_index = procedure_type symbol;
})) (name_behind (procedure_name_place symbol.raw_kind) symbol)

-- a thunk in a list of symbols (THUNKSYM32): pEnd at 4, off at 12, seg at 16, a two-byte len at 18, and the name at 21
abbrev pub thunk : List SymbolBytes → SymbolBytes → Option SymbolData
thunk symbols symbol = option_map (λ name. Thunk (record {
  offset = section_offset 12 16 symbol.content;
  len = two_byte_number (drop 18 symbol.content);
  name = name;
  end = position_at symbols (number (drop 4 symbol.content));
})) (name_behind 21 symbol)

-- separated code in a list of symbols (SEPCODESYM), 28 bytes: pEnd at 4, length at 8, off at 16, offParent at 20, sect
-- at 24 and sectParent at 26
abbrev pub separated_code : List SymbolBytes → SymbolBytes → Option SymbolData
separated_code symbols symbol =
    if nat_lt (length symbol.content) 28 then None else
    Some (SeparatedCode (record {
      offset = section_offset 16 24 symbol.content;
      len = number (drop 8 symbol.content);
      parent_offset = section_offset 20 26 symbol.content;
      end = position_at symbols (number (drop 4 symbol.content));
    }))

-- a jump (TRAMPOLINESYM), 16 bytes, as code separated from its target: a two-byte cbThunk at 2, offThunk at 4,
-- offTarget at 8, sectThunk at 12 and sectTarget at 14. It has no end symbol
abbrev pub trampoline : SymbolBytes → Option SymbolData
trampoline symbol =
    if nat_lt (length symbol.content) 16 then None else
    Some (SeparatedCode (record {
      offset = section_offset 4 12 symbol.content;
      len = two_byte_number (drop 2 symbol.content);
      parent_offset = section_offset 8 14 symbol.content;
      end = record { 0 = 0 };
    }))

-- an inline site in a list of symbols (INLINESITESYM and INLINESITESYM2), in this code: pEnd at 4, inlinee at 8, and
-- binaryAnnotations after 12 bytes, or after 16 in INLINESITESYM2, which has invocations before them
abbrev pub inline_site : ModuleCode → List SymbolBytes → ℕ → CodePlace → SymbolBytes → Option SymbolData
inline_site code symbols size at symbol =
    if nat_lt (length symbol.content) size then None else
    Some (InlineSite (record {
      inlinee = record { 0 = number (drop 8 symbol.content) };
      end = position_at symbols (number (drop 4 symbol.content));
      rows = site_rows code (chunk_start symbols at) (number (drop 8 symbol.content)) at.start.offset
          (drop size symbol.content);
    }))

-- the content of a global symbol; only public symbols are parsed
abbrev pub global_content : SymbolBytes → Option SymbolData
global_content symbol = if is_public_kind symbol.raw_kind then public_symbol symbol else Some Other

-- a global symbol
abbrev pub global_symbol : SymbolBytes → Symbol
global_symbol symbol = record { raw_kind = symbol.raw_kind; content = global_content symbol }

-- the global symbols, which have a stream of their own
abbrev pub global_symbols : List ℕ → Read Symbol
global_symbols stream = record {
  items = map global_symbol (symbol_records 0 stream).items;
  fault = (symbol_records 0 stream).fault;
}

-- the content of a symbol in a module's list, by its kind; `at` is the code before it
abbrev pub module_content : ModuleCode → List SymbolBytes → CodePlace → SymbolBytes → Option SymbolData
module_content code symbols at symbol =
    if is_procedure_kind (recorded_kind symbol.raw_kind) then procedure symbols symbol else
    if symbol.raw_kind == s_thunk32 then thunk symbols symbol else
    if symbol.raw_kind == s_thunk32_st then thunk symbols symbol else
    if symbol.raw_kind == s_sepcode then separated_code symbols symbol else
    if symbol.raw_kind == s_trampoline then trampoline symbol else
    if symbol.raw_kind == s_inlinesite then inline_site code symbols 12 at symbol else
    if symbol.raw_kind == s_inlinesite2 then inline_site code symbols 16 at symbol else
    global_content symbol

-- the code that has the inline sites after a symbol: a procedure or separated code, otherwise the code before it
abbrev pub code_place : Option SymbolData → CodePlace → CodePlace
code_place (Some (Procedure symbol)) before = record { start = symbol.offset; function = symbol.offset }
code_place (Some (SeparatedCode symbol)) before = record { start = symbol.offset; function = symbol.parent_offset }
code_place content before = before

-- the symbols from here on in a module's list; `at` is the code before them
abbrev pub symbols_from : ModuleCode → List SymbolBytes → CodePlace → List SymbolBytes → List Symbol
symbols_from code symbols at [] = []
symbols_from code symbols at (symbol ∷ rest) =
    let content = module_content code symbols at symbol in
    record { raw_kind = recorded_kind symbol.raw_kind; content = content }
    ∷ symbols_from code symbols (code_place content at) rest

-- the code before the first symbol: none, as offset 0 of section 0
abbrev pub no_code : CodePlace
no_code = record { start = record { section = 0; offset = 0 }; function = record { section = 0; offset = 0 } }

-- the symbols of a module, by the bytes of their list, which starts `front` bytes into the module's stream
abbrev pub module_symbols : ModuleCode → ℕ → List ℕ → Read Symbol
module_symbols code front bytes = record {
  items = symbols_from code (symbol_records front bytes).items no_code (symbol_records front bytes).items;
  fault = (symbol_records front bytes).fault;
}
