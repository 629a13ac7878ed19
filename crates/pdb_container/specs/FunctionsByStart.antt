-- Functions with their names and types, found by start.
use Rattle.std.specs.Prelude.{ℕ, ◌==◌, List, [], ◌∷◌, find, Option, Some, None, option_map, Result, Ok}
use Rattle.std.specs.List.{filter_map}
use Rattle.std.specs.Option.{option_map_or, option_or}
use Rattle.std.specs.Result.{result_ok}
use Rattle.pdb_records.specs.Readings.{Read}
use Rattle.pdb_records.specs.declared.error.StreamError.{StreamError}
use Rattle.pdb_records.specs.declared.symbols.Symbol.{Symbol}
use Rattle.pdb_records.specs.declared.symbols.SymbolData.{SymbolData}
use Rattle.pdb_records.specs.declared.symbols.SymbolData.TheVariants.{Procedure, Public}
use Rattle.pdb_records.specs.declared.types.TypeIndex.{TypeIndex}
use Rattle.pdb_codeview.specs.Places.{place}
use Rattle.pdb_container.specs.declared.functions_by_start.NamedFunction.{NamedFunction}
use Rattle.pdb_container.specs.ModulePlaces.{ModuleOrFault}

-- a function: the place at which it starts, its name, and its type
pub record FunctionStart : Type 0 where
  pub start : ℕ
  pub name : List ℕ
  pub type_index : TypeIndex

-- an optional function, with its name as bytes
abbrev pub seen : Option NamedFunction → Option FunctionStart
seen known = option_map (λ f. record { start = f.start; name = f.name.now; type_index = f.type_index }) known

-- the function of a symbol: a procedure, or a public symbol, which has no type
abbrev pub function_of : Option SymbolData → Option FunctionStart
function_of (Some (Procedure symbol)) =
    Some (record { start = place symbol.offset; name = symbol.name; type_index = symbol.type_index })
function_of (Some (Public symbol)) =
    Some (record { start = place symbol.offset; name = symbol.name; type_index = record { 0 = 0 } })
function_of content = None

-- the first function that symbols list at a place
abbrev pub function_at : ℕ → List Symbol → Option FunctionStart
function_at place symbols = find (λ f. f.start == place) (filter_map (λ symbol. function_of symbol.content) symbols)

-- the symbols of a module that was read
abbrev pub symbols_of : ModuleOrFault → List Symbol
symbols_of (Ok (Some info)) = info.symbols.items
symbols_of read = []

-- the first function that modules list at a place, one module after the other
abbrev pub function_in : ℕ → List ModuleOrFault → Option FunctionStart
function_in place [] = None
function_in place (read ∷ modules) = option_or (function_at place (symbols_of read)) (function_in place modules)

-- the function at a place: the first in the modules, otherwise the first public symbol
abbrev pub any_function : List ModuleOrFault → Result (Read Symbol) StreamError → ℕ → Option FunctionStart
any_function modules globals place =
    option_or (function_in place modules)
    (function_at place (option_map_or (λ list. list.items) (result_ok globals) []))
