-- Records without their broken parts, and the repairs that are reported for these parts.
use Rattle.std.specs.Prelude.{ℕ, ◌+◌, List, [], ◌∷◌, ◌++◌, map, Option, Some, None, option_map, option_to_list}
use Rattle.std.specs.Prelude.{Result, Ok, Err}
use Rattle.std.specs.Option.{option_or}
use Rattle.pdb_records.specs.LinePrograms.{Lines}
use Rattle.pdb_records.specs.Readings.{Read}
use Rattle.pdb_records.specs.Records.{Records}
use Rattle.pdb_records.specs.declared.addresses.ImageSectionHeader.{ImageSectionHeader}
use Rattle.pdb_records.specs.declared.debug_information.DebugInformation.{DebugInformation}
use Rattle.pdb_records.specs.declared.error.StreamError.{StreamError}
use Rattle.pdb_records.specs.declared.lines.LineInfo.{LineInfo}
use Rattle.pdb_records.specs.declared.lines.SymbolLines.{SymbolLines}
use Rattle.pdb_records.specs.declared.modules.ModuleInfo.{ModuleInfo}
use Rattle.pdb_records.specs.declared.symbols.SymbolTable.{SymbolTable}
use Rattle.pdb_records.specs.declared.types.ItemInformation.{ItemInformation}
use Rattle.pdb_repairs.specs.Claims.{repairs_of_claims, with_retained}
use Rattle.pdb_repairs.specs.RowFaults.{inline_rows, row_faults}
use Rattle.pdb_repairs.specs.Repairs.{without_fault}
use Rattle.pdb_repairs.specs.declared.repairs.Repair.{Repair}
use Rattle.pdb_repairs.specs.declared.repairs.Repair.TheVariants.{Contributions, GlobalSymbols, Inlinees}
use Rattle.pdb_repairs.specs.declared.repairs.Repair.TheVariants.{Lines as LinesLost, Module, Modules, NoGlobalSymbols}
use Rattle.pdb_repairs.specs.declared.repairs.Repair.TheVariants.{NoIds, NoTypes, Symbols}

-- the records of a module, `None` for a module without records, or why they can't be read
abbrev pub ModuleOrFault : Type 0
ModuleOrFault = Result (Option ModuleInfo) StreamError

-- the rows that an entry keeps: none if they end early, since a row reaches to the next one, and that one is lost
abbrev pub kept_rows : Option StreamError → List LineInfo → List LineInfo
kept_rows None rows = rows
kept_rows (Some fault) rows = []

-- the rows of an entry after the repair: all of them, or none if they end early
abbrev pub repaired_rows : Read LineInfo → Read LineInfo
repaired_rows rows = record { items = kept_rows rows.fault rows.items; fault = None }

-- an entry of a line program, without its rows if they end early
abbrev pub repaired_entry : SymbolLines → SymbolLines
repaired_entry entry = record entry { lines = repaired_rows entry.lines }

-- the fault of the first entry whose rows end early
abbrev pub first_fault : List SymbolLines → Option StreamError
first_fault [] = None
first_fault (entry ∷ entries) = option_or entry.lines.fault (first_fault entries)

-- a line program, without the rows of entries that end early
abbrev pub repaired_program : Lines → Lines
repaired_program program = record program { entries = map repaired_entry program.entries }

-- a line program after the repair; empty if it can't be read
abbrev pub repaired_lines : Result Lines StreamError → Result Lines StreamError
repaired_lines (Ok program) = Ok (repaired_program program)
repaired_lines (Err fault) = Ok (record { entries = []; files = [] })

-- the fault of a line program: why it can't be read, or the fault of the first entry whose rows end early
abbrev pub line_fault : Result Lines StreamError → Option StreamError
line_fault (Ok program) = first_fault program.entries
line_fault (Err fault) = Some fault

-- the repaired records of a module: symbols and inlinees up to their fault, and readable lines
abbrev pub repaired_module : ModuleInfo → ModuleInfo
repaired_module info = record info {
  symbols = without_fault info.symbols;
  line_program = repaired_lines info.line_program;
  inlinees = without_fault info.inlinees;
}

-- the repair of a part with this fault; none without a fault
abbrev pub told : (StreamError → Repair) → Option StreamError → List Repair
told repair fault = option_to_list (option_map repair fault)

-- the repairs of the module with this index: its symbols, its lines, its inlinees, and rows of its inline sites, each
-- if it is broken
abbrev pub repairs_of_module : ℕ → ModuleInfo → List Repair
repairs_of_module module_index info =
    told (Symbols module_index) info.symbols.fault
    ++ told (LinesLost module_index) (line_fault info.line_program)
    ++ told (Inlinees module_index) info.inlinees.fault
    ++ option_to_list (inline_rows module_index (row_faults info.symbols.items))

-- a module after the repair; a module whose records can't be read at all stays as it is
abbrev pub repaired_read : ModuleOrFault → ModuleOrFault
repaired_read (Ok (Some info)) = Ok (Some (repaired_module info))
repaired_read read = read

-- the repairs of the module with this index; an unreadable module is one repair
abbrev pub repairs_of_read : ℕ → ModuleOrFault → List Repair
repairs_of_read module_index (Ok (Some info)) = repairs_of_module module_index info
repairs_of_read module_index (Ok None) = []
repairs_of_read module_index (Err fault) = Module module_index fault ∷ []

-- the repairs of modules in their order; the first module has this index
abbrev pub repairs_from : ℕ → List ModuleOrFault → List Repair
repairs_from module_index [] = []
repairs_from module_index (read ∷ reads) = repairs_of_read module_index read ++ repairs_from (module_index + 1) reads

-- the public symbols up to their fault; none if they can't be read
abbrev pub repaired_symbols : Result SymbolTable StreamError → Result SymbolTable StreamError
repaired_symbols (Ok table) = Ok (record table { symbols = without_fault table.symbols })
repaired_symbols (Err fault) = Ok (record { symbols = record { items = []; fault = None } })

-- the repairs of the public symbols
abbrev pub repairs_of_symbols : Result SymbolTable StreamError → List Repair
repairs_of_symbols (Ok table) = told GlobalSymbols table.symbols.fault
repairs_of_symbols (Err fault) = NoGlobalSymbols fault ∷ []

-- the types or the ids of a program; if they can't be read, an empty list that ends with the fault, so a name that
-- needs one of them is unknown
abbrev pub repaired_items : {I D : Type 0} → Result (ItemInformation I D) StreamError
    → Result (ItemInformation I D) StreamError
repaired_items (Ok information) = Ok information
repaired_items (Err fault) = Ok (record { items = record { items = []; fault = Some fault } })

-- why a part can't be read
abbrev pub unread_fault : {A : Type 0} → Result A StreamError → Option StreamError
unread_fault (Ok part) = None
unread_fault (Err fault) = Some fault

-- the lists of modules and of contributions up to their faults
abbrev pub repaired_lists : DebugInformation → DebugInformation
repaired_lists debug = record debug {
  modules = without_fault debug.modules;
  section_contributions = without_fault debug.section_contributions;
}

-- the repairs of the lists of modules and of contributions
abbrev pub repairs_of_lists : DebugInformation → List Repair
repairs_of_lists debug = told Modules debug.modules.fault ++ told Contributions debug.section_contributions.fault

-- debug information with only the contributions that are kept, if there are sections
abbrev pub with_kept : Result (Option (List ImageSectionHeader)) StreamError → DebugInformation → DebugInformation
with_kept (Ok (Some sections)) debug = with_retained sections debug
with_kept sections debug = debug

-- the repairs of contributions that aren't kept
abbrev pub repairs_of_contributions : Result (Option (List ImageSectionHeader)) StreamError → DebugInformation
    → List Repair
repairs_of_contributions (Ok (Some sections)) debug = repairs_of_claims sections debug
repairs_of_contributions sections debug = []

-- debug information after the repair: lists up to their faults, and the contributions that are kept
abbrev pub repaired_debug : Result (Option (List ImageSectionHeader)) StreamError → DebugInformation → DebugInformation
repaired_debug sections debug = with_kept sections (repaired_lists debug)

-- the repairs of debug information
abbrev pub repairs_of_debug : Result (Option (List ImageSectionHeader)) StreamError → DebugInformation → List Repair
repairs_of_debug sections debug = repairs_of_lists debug ++ repairs_of_contributions sections debug

-- debug information after the repair; it stays as it is if it can't be read
abbrev pub repaired_debug_information : Result (Option (List ImageSectionHeader)) StreamError
    → Result DebugInformation StreamError → Result DebugInformation StreamError
repaired_debug_information sections (Ok debug) = Ok (repaired_debug sections debug)
repaired_debug_information sections (Err fault) = Err fault

-- the repairs of debug information; none if it can't be read
abbrev pub repairs_of_debug_information : Result (Option (List ImageSectionHeader)) StreamError
    → Result DebugInformation StreamError → List Repair
repairs_of_debug_information sections (Ok debug) = repairs_of_debug sections debug
repairs_of_debug_information sections (Err fault) = []

-- records without their broken parts: public symbols, types, ids, lists of modules and of contributions, and modules
-- are repaired; all else stays
abbrev pub repaired : Records → Records
repaired records = record records {
  global_symbols = repaired_symbols records.global_symbols;
  debug_information = repaired_debug_information records.sections records.debug_information;
  type_information = repaired_items records.type_information;
  id_information = repaired_items records.id_information;
  module_infos = map repaired_read records.module_infos;
}

-- the repairs of records other than their modules: of public symbols, types, ids and debug information
abbrev pub repairs_of_front : Records → List Repair
repairs_of_front records =
    repairs_of_symbols records.global_symbols
    ++ told NoTypes (unread_fault records.type_information)
    ++ told NoIds (unread_fault records.id_information)
    ++ repairs_of_debug_information records.sections records.debug_information

-- all repairs of records, those of modules last
abbrev pub repairs_of : Records → List Repair
repairs_of records = repairs_of_front records ++ repairs_from 0 records.module_infos
