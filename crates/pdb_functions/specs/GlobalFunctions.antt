-- The functions from the global symbols.
use Rattle.std.specs.Prelude.{ℕ, List, ◌++◌, Option, Some, None, map, if◌then◌else◌}
use Rattle.std.specs.Option.{option_copied}
use Rattle.std.specs.List.{filter_map}
use Rattle.pdb_records.specs.SymbolKinds.{is_public_kind}
use Rattle.pdb_records.specs.declared.addresses.ImageSectionHeader.{ImageSectionHeader}
use Rattle.pdb_records.specs.declared.addresses.PdbInternalSectionOffset.{PdbInternalSectionOffset}
use Rattle.pdb_records.specs.declared.debug_information.DebugInformation.{DebugInformation}
use Rattle.pdb_records.specs.declared.symbols.Symbol.{Symbol}
use Rattle.pdb_records.specs.declared.symbols.SymbolData.{SymbolData}
use Rattle.pdb_records.specs.declared.symbols.SymbolData.TheVariants.{Public}
use Rattle.pdb_functions.specs.declared.global_functions.GlobalFunction as code
use Rattle.pdb_functions.specs.CodeSections.{is_executable, section_ends}
use Rattle.pdb_functions.specs.MergedContributions.{contribution_starts}
use Rattle.pdb_functions.specs.Starts.{first_of_each_start}

-- the start of a function, and its name if it has one
pub record GlobalFunction : Type 0 where
  pub start : PdbInternalSectionOffset
  pub name : Option (List ℕ)

-- the model of the code's `GlobalFunction`
abbrev pub global_function : code.GlobalFunction → GlobalFunction
global_function f = record { start = f.start_offset; name = option_copied f.name }

-- the function of a public symbol in a section that holds code
abbrev pub public_data : List ImageSectionHeader → Option SymbolData → Option GlobalFunction
public_data sections (Some (Public symbol)) =
    if is_executable sections symbol.offset.section
    then Some (record { start = symbol.offset; name = Some symbol.name })
    else None
public_data sections other = None

-- the function of a symbol, if it is a public one
abbrev pub public_function : List ImageSectionHeader → Symbol → Option GlobalFunction
public_function sections symbol = if is_public_kind symbol.raw_kind then public_data sections symbol.content else None

-- a function start without a name
abbrev pub placeholder : PdbInternalSectionOffset → GlobalFunction
placeholder start = record { start = start; name = None }

-- all function starts: those of public symbols first, then of contributions that count, then the ends of sections
abbrev pub listed_functions : List ImageSectionHeader → List Symbol → DebugInformation → List GlobalFunction
listed_functions sections symbols debug =
    filter_map (public_function sections) symbols
    ++ map placeholder (contribution_starts sections debug.section_contributions.items ++ section_ends sections)

-- the functions sorted by section and start, with the first of each start: the first public symbol, otherwise one
-- without a name
abbrev pub global_functions : List ImageSectionHeader → List Symbol → DebugInformation → List GlobalFunction
global_functions sections symbols debug = first_of_each_start (λ f. f.start) (listed_functions sections symbols debug)
