-- Inline sites whose rows end early.
use Rattle.std.specs.Prelude.{ℕ, List, [], ◌∷◌, length, Option, Some, None, if◌then◌else◌}
use Rattle.std.specs.List.{filter_map}
use Rattle.pdb_records.specs.SymbolKinds.{is_site_kind}
use Rattle.pdb_records.specs.declared.error.StreamError.{StreamError}
use Rattle.pdb_records.specs.declared.symbols.Symbol.{Symbol}
use Rattle.pdb_records.specs.declared.symbols.SymbolData.{SymbolData}
use Rattle.pdb_records.specs.declared.symbols.SymbolData.TheVariants.{InlineSite}
use Rattle.pdb_repairs.specs.declared.repairs.Repair.{Repair}
use Rattle.pdb_repairs.specs.declared.repairs.Repair.TheVariants.{InlineRows}

-- the fault of an inline site whose rows end early
abbrev pub site_fault : Option SymbolData → Option StreamError
site_fault (Some (InlineSite site)) = site.rows.fault
site_fault other = None

-- the fault of a symbol's inline site whose rows end early; the symbol's kind must be one of inline sites
abbrev pub row_fault : Symbol → Option StreamError
row_fault symbol = if is_site_kind symbol.raw_kind then site_fault symbol.content else None

-- the faults of a module's inline sites, in the order of the symbols
abbrev pub row_faults : List Symbol → List StreamError
row_faults symbols = filter_map row_fault symbols

-- the repair of a module with these faults: the first fault, and the number of sites with one; none without faults
abbrev pub inline_rows : ℕ → List StreamError → Option Repair
inline_rows module_index [] = None
inline_rows module_index (fault ∷ faults) = Some (InlineRows module_index fault (length (fault ∷ faults)))
