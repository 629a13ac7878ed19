-- Code without a name of its own (chunks and jumps): it becomes procedures with their function's name.
use Rattle.std.specs.Prelude.{ℕ, ◌+◌, ◌-◌, ◌==◌, nat_le, List, [], ◌∷◌, ◌++◌, length, map, fold, slice_get, slice_set}
use Rattle.std.specs.Prelude.{Option, Some, None, option_map, option_to_list, Result, Ok, if◌then◌else◌}
use Rattle.std.specs.Option.{option_or}
use Rattle.pdb_records.specs.Readings.{Read}
use Rattle.pdb_records.specs.SymbolKinds.{s_sepcode, s_thunk32}
use Rattle.pdb_records.specs.declared.error.StreamError.{StreamError}
use Rattle.pdb_records.specs.declared.modules.ModuleInfo.{ModuleInfo}
use Rattle.pdb_records.specs.declared.symbols.ProcedureSymbol.{ProcedureSymbol}
use Rattle.pdb_records.specs.declared.symbols.SeparatedCodeSymbol.{SeparatedCodeSymbol}
use Rattle.pdb_records.specs.declared.symbols.Symbol.{Symbol}
use Rattle.pdb_records.specs.declared.symbols.SymbolData.{SymbolData}
use Rattle.pdb_records.specs.declared.symbols.SymbolData.TheVariants.{Procedure, SeparatedCode}
use Rattle.pdb_records.specs.declared.types.TypeIndex.{TypeIndex}
use Rattle.pdb_codeview.specs.declared.procedure_spans.ProcedureSpan.{ProcedureSpan}
use Rattle.pdb_codeview.specs.Places.{is_at, place}
use Rattle.pdb_codeview.specs.ProcedureSpans.{span_of}
use Rattle.pdb_codeview.specs.SymbolKinds.{s_trampoline}
use Rattle.pdb_container.specs.declared.unnamed_code.RenamedSymbol.{RenamedSymbol}
use Rattle.pdb_container.specs.FunctionsByStart.{FunctionStart, any_function, function_at, symbols_of}
use Rattle.pdb_container.specs.ModulePlaces.{ModuleOrFault}

-- nameless code of a module: the position of its symbol, the symbol's kind, and the code
pub record Chunk : Type 0 where
  pub position : ℕ
  pub raw_kind : ℕ
  pub code : SeparatedCodeSymbol

-- nameless code: the index of its module, the position of its symbol there, the code, and a chunk's function if its own
-- module lists it
pub record CodeOfModule : Type 0 where
  pub module_index : ℕ
  pub position : ℕ
  pub code : SeparatedCodeSymbol
  pub own : Option FunctionStart

-- separated code that needs a name, by the symbol's kind: a jump, or a chunk. A chunk after code that starts where the
-- chunk's function does needs none
abbrev pub separated : ℕ → Option ℕ → SeparatedCodeSymbol → Option SeparatedCodeSymbol
separated raw_kind before code =
    if raw_kind == s_trampoline then Some code else
    if raw_kind == s_sepcode then (if is_at before (place code.parent_offset) then None else Some code) else
    None

-- the separated code of a symbol that needs a name; `before` is the place of the code before it
abbrev pub separated_code : ℕ → Option ℕ → Option SymbolData → Option SeparatedCodeSymbol
separated_code raw_kind before (Some (SeparatedCode code)) = separated raw_kind before code
separated_code raw_kind before content = None

-- the place of this code if there is any, otherwise that of the code before it
abbrev pub start_or : Option ℕ → Option ProcedureSpan → Option ℕ
start_or before None = before
start_or before (Some span) = Some (place span.start)

-- the separated code among the symbols from this position on; `before` is the place of the code before them
abbrev pub separated_from : ℕ → Option ℕ → List Symbol → List Chunk
separated_from position before [] = []
separated_from position before (symbol ∷ symbols) =
    option_to_list (option_map (λ code. record { position = position; raw_kind = symbol.raw_kind; code = code })
    (separated_code symbol.raw_kind before symbol.content))
    ++ separated_from (position + 1) (start_or before (span_of symbol.content)) symbols

-- the function of a chunk, if its own module's symbols list one at the function's start; a jump has none
abbrev pub own_function : List Symbol → ℕ → SeparatedCodeSymbol → Option FunctionStart
own_function symbols raw_kind code =
    if raw_kind == s_sepcode then function_at (place code.parent_offset) symbols else None

-- nameless code of the module with this index and these symbols
abbrev pub code_in_module : ℕ → List Symbol → Chunk → CodeOfModule
code_in_module index symbols separated = record {
  module_index = index;
  position = separated.position;
  code = separated.code;
  own = own_function symbols separated.raw_kind separated.code;
}

-- the nameless code among a module's symbols
abbrev pub code_of_module : ℕ → List Symbol → List CodeOfModule
code_of_module index symbols = map (code_in_module index symbols) (separated_from 0 None symbols)

-- the nameless code of modules, numbered from `index` on
abbrev pub code_from : ℕ → List ModuleOrFault → List CodeOfModule
code_from index [] = []
code_from index (read ∷ modules) = code_of_module index (symbols_of read) ++ code_from (index + 1) modules

-- the procedure that replaces code, with its function's name and type
abbrev pub procedure_of : SeparatedCodeSymbol → List ℕ → TypeIndex → ProcedureSymbol
procedure_of code name type_index = record {
  offset = code.offset;
  len = code.len;
  name = name;
  end = code.end;
  type_index = type_index;
}

-- the replacement of the symbol of code, with the name of this function
abbrev pub renamed_symbol : CodeOfModule → FunctionStart → RenamedSymbol
renamed_symbol code function = record {
  module_index = code.module_index;
  position = code.position;
  procedure = procedure_of code.code function.name function.type_index;
}

-- the replacements of the symbols of code, by the functions at places; names may take `room` bytes together. Code
-- without a function, or whose name doesn't fit, keeps its symbol
abbrev pub renamed_symbols : (ℕ → Option FunctionStart) → ℕ → List CodeOfModule → List RenamedSymbol
renamed_symbols function_there room [] = []
renamed_symbols function_there room (code ∷ codes) =
    elim (option_or code.own (function_there (place code.code.parent_offset))) as (λ found. List RenamedSymbol) [
      | None ↦ renamed_symbols function_there room codes
      | Some function ↦
          if nat_le (length function.name) room
          then renamed_symbol code function ∷ renamed_symbols function_there (room - length function.name) codes
          else renamed_symbols function_there room codes
    ]

-- the symbol that has become this procedure; a jump gets the kind of a thunk, which has code
abbrev pub named_symbol : ProcedureSymbol → Symbol → Symbol
named_symbol procedure symbol = record {
  raw_kind = if symbol.raw_kind == s_trampoline then s_thunk32 else symbol.raw_kind;
  content = Some (Procedure procedure);
}

-- the list with one element changed, if it has this position
abbrev pub changed_at : {A : Type 0} → ℕ → (A → A) → List A → List A
changed_at {A = A} position change items =
    elim (slice_get items position) as (λ found. List A) [
      | None ↦ items
      | Some item ↦ slice_set items position (change item)
    ]

-- the records of a module, with the symbol at a position replaced by this procedure
abbrev pub with_procedure : ℕ → ProcedureSymbol → ModuleInfo → ModuleInfo
with_procedure position procedure info = record info {
  symbols = record info.symbols { items = changed_at position (named_symbol procedure) info.symbols.items };
}

-- the records of a module, with the symbol at a position replaced by this procedure, if the module was read
abbrev pub named_module : ℕ → ProcedureSymbol → ModuleOrFault → ModuleOrFault
named_module position procedure (Ok (Some info)) = Ok (Some (with_procedure position procedure info))
named_module position procedure read = read

-- modules with one symbol replaced
abbrev pub named : List ModuleOrFault → RenamedSymbol → List ModuleOrFault
named modules renamed_symbol =
    changed_at renamed_symbol.module_index (named_module renamed_symbol.position renamed_symbol.procedure) modules

-- modules whose nameless code has its function's name, as far as the names fit in `room` bytes
unfoldable pub named_modules : ℕ → Result (Read Symbol) StreamError → List ModuleOrFault → List ModuleOrFault
named_modules room globals modules =
    fold named modules (renamed_symbols (any_function modules globals) room (code_from 0 modules))
