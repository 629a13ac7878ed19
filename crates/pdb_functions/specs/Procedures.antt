-- The procedures of a module.
use Rattle.std.specs.Prelude.{ℕ, ◌+◌, List, [], ◌∷◌, ◌++◌, Option, Some, None, Result, Ok}
use Rattle.std.specs.Prelude.{Err, nat_lt, option_and_then, option_to_list, if◌then◌else◌}
use Rattle.pdb_records.specs.Addresses.{is_same_section_offset}
use Rattle.pdb_records.specs.SymbolKinds.{is_code_kind}
use Rattle.pdb_records.specs.declared.addresses.PdbInternalSectionOffset.{PdbInternalSectionOffset}
use Rattle.pdb_records.specs.declared.error.StreamError.{StreamError}
use Rattle.pdb_records.specs.declared.symbols.Symbol.{Symbol}
use Rattle.pdb_records.specs.declared.symbols.SymbolIndex.{SymbolIndex}
use Rattle.pdb_records.specs.declared.symbols.SymbolData.{SymbolData}
use Rattle.pdb_records.specs.declared.symbols.SymbolData.TheVariants.{Procedure, SeparatedCode, Thunk}
use Rattle.pdb_records.specs.declared.types.TypeIndex.{TypeIndex}
use Rattle.pdb_records.specs.declared.modules.ModuleInfo.{ModuleInfo}
use Rattle.pdb_functions.specs.declared.procedures.ProcedureSymbolFunction.{ProcedureSymbolFunction}
use Rattle.pdb_functions.specs.Starts.{first_of_each_start}

-- a procedure of a module
pub record ModuleProcedure : Type 0 where
  pub offset : PdbInternalSectionOffset
  pub len : ℕ
  pub name : List ℕ
  pub symbol_index : SymbolIndex
  pub end_symbol_index : SymbolIndex
  pub type_index : TypeIndex

-- the model of `ProcedureSymbolFunction`
abbrev pub module_procedure : ProcedureSymbolFunction → ModuleProcedure
module_procedure p = record {
  offset = p.offset;
  len = p.len;
  name = p.name.now;
  symbol_index = p.symbol_index;
  end_symbol_index = p.end_symbol_index;
  type_index = p.type_index;
}

-- a procedure, unless it is empty
abbrev pub unless_empty : ModuleProcedure → Option ModuleProcedure
unless_empty procedure = if nat_lt 0 procedure.len then Some procedure else None

-- the procedure of a symbol, after the last one that counts. Separated code gets the name and the type of that one if
-- it starts at the parent's section offset
abbrev pub procedure_data : ℕ → Option ModuleProcedure → Option SymbolData → Option ModuleProcedure
procedure_data at last (Some (Procedure s)) =
    unless_empty (record {
      offset = s.offset;
      len = s.len;
      name = s.name;
      symbol_index = record { 0 = at };
      end_symbol_index = s.end;
      type_index = s.type_index;
    })
procedure_data at last (Some (SeparatedCode s)) = option_and_then (λ parent.
    if is_same_section_offset parent.offset s.parent_offset
    then unless_empty (record {
      offset = s.offset;
      len = s.len;
      name = parent.name;
      symbol_index = record { 0 = at };
      end_symbol_index = s.end;
      type_index = parent.type_index;
    })
    else None) last
procedure_data at last (Some (Thunk s)) =
    unless_empty (record {
      offset = s.offset;
      len = s.len;
      name = s.name;
      symbol_index = record { 0 = at };
      end_symbol_index = s.end;
      type_index = record { 0 = 0 };
    })
procedure_data at last other = None

-- the procedure of a symbol at a position, after the last one that counts
abbrev pub procedure_at : ℕ → Option ModuleProcedure → Symbol → Option ModuleProcedure
procedure_at at last symbol = if is_code_kind symbol.raw_kind then procedure_data at last symbol.content else None

-- the last procedure that counts: the new one if there is one, otherwise the one before
abbrev pub last_counted : Option ModuleProcedure → Option ModuleProcedure → Option ModuleProcedure
last_counted last None = last
last_counted last (Some procedure) = Some procedure

-- the procedures of symbols from a position on, in reading order, after the last one that counts
abbrev pub procedures_from : ℕ → Option ModuleProcedure → List Symbol → List ModuleProcedure
procedures_from at last [] = []
procedures_from at last (symbol ∷ symbols) =
    option_to_list (procedure_at at last symbol)
    ++ procedures_from (at + 1) (last_counted last (procedure_at at last symbol)) symbols

-- the procedures of symbols, sorted by section and start, with the first of each start
abbrev pub symbol_procedures : List Symbol → List ModuleProcedure
symbol_procedures symbols = first_of_each_start (λ p. p.offset) (procedures_from 0 None symbols)

-- the procedures of a module's records; none if its symbols have a fault
abbrev pub info_procedures : ModuleInfo → List ModuleProcedure
info_procedures info = procedures_before info.symbols.fault info where
  procedures_before : Option StreamError → ModuleInfo → List ModuleProcedure
  procedures_before None info = symbol_procedures info.symbols.items
  procedures_before (Some fault) info = []

-- the procedures in a provider's answer
abbrev pub provided_procedures : Result (Option ModuleInfo) StreamError → List ModuleProcedure
provided_procedures (Ok (Some info)) = info_procedures info
provided_procedures (Ok None) = []
provided_procedures (Err fault) = []
