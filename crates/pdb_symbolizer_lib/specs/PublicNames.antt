-- Names of functions by the public symbols at their starts.
use Rattle.std.specs.Prelude.{ℕ, List, [], ◌∷◌, Option, Some, None, option_map}
use Rattle.std.specs.Prelude.{option_and_then, Result, Ok, Err, if◌then◌else◌}
use Rattle.std.specs.BTreeMap.{BTreeMap, get}
use Rattle.std.specs.Option.{option_or}
use Rattle.pdb_records.specs.Addresses.{internal_offset, is_same_section_offset}
use Rattle.pdb_records.specs.Names.{lossy}
use Rattle.pdb_records.specs.Records.{Records}
use Rattle.pdb_records.specs.declared.addresses.AddressRange.{AddressRange}
use Rattle.pdb_records.specs.declared.addresses.PdbInternalSectionOffset.{PdbInternalSectionOffset}
use Rattle.pdb_records.specs.declared.error.StreamError.{StreamError}
use Rattle.pdb_records.specs.declared.symbols.Symbol.{Symbol}
use Rattle.pdb_records.specs.declared.symbols.SymbolData.{SymbolData}
use Rattle.pdb_records.specs.declared.symbols.SymbolData.TheVariants.{Public}
use Rattle.pdb_records.specs.declared.symbols.SymbolTable.{SymbolTable}
use Rattle.pdb_functions.specs.Starts.{section_offset_cmp}
use Rattle.pdb_frames.specs.Frame.{FrameInfo, FramesInfo}
use Rattle.pdb_symbolizer_input.specs.NameOptions.{shows_decorated_names}
use Rattle.pdb_symbolizer_input.specs.declared.options.Options.{Options}
use Rattle.pdb_symbolizer_lib.specs.declared.public_names.PublicNames.{PublicNames}

-- the name of a symbol as text, if it is a public symbol at this section offset
abbrev pub name_at : PdbInternalSectionOffset → Option SymbolData → Option (List ℕ)
name_at start (Some (Public symbol)) =
    if is_same_section_offset symbol.offset start then Some (lossy symbol.name) else None
name_at start content = None

-- the name of the first public symbol in a list at this section offset
abbrev pub public_name : List Symbol → PdbInternalSectionOffset → Option (List ℕ)
public_name [] start = None
public_name (symbol ∷ symbols) start = option_or (name_at start symbol.content) (public_name symbols start)

-- the global symbols; none if they can't be read
abbrev pub symbols_of : Result SymbolTable StreamError → List Symbol
symbols_of (Ok table) = table.symbols.items
symbols_of (Err fault) = []

-- the sections of a program; none if they can't be read
abbrev pub sections_of : Result (List AddressRange) StreamError → List AddressRange
sections_of (Ok sections) = sections
sections_of (Err fault) = []

-- the name of the first public symbol of these records at a section offset
abbrev pub public_name_in : Records → PdbInternalSectionOffset → Option (List ℕ)
public_name_in records start = public_name (symbols_of records.global_symbols) start

-- the public name at a section offset, if the options want it
abbrev pub wanted_name : Options → Records → PdbInternalSectionOffset → Option (List ℕ)
wanted_name options records start = if shows_decorated_names options then public_name_in records start else None

-- the name in a table at a section offset, as text
abbrev pub name_in : BTreeMap PdbInternalSectionOffset (List ℕ) → PdbInternalSectionOffset → Option (List ℕ)
name_in names start = option_map lossy (get section_offset_cmp names start)

-- the known public name of the function that starts at an address
abbrev pub known_name : PublicNames → ℕ → Option (List ℕ)
known_name known start =
    option_and_then (name_in known.names) (internal_offset known.address_map (record { 0 = start }))

-- the public name of the function that starts at an address, if the options want it
abbrev pub function_name : Options → Records → ℕ → Option (List ℕ)
function_name options records start =
    option_and_then (wanted_name options records)
    (internal_offset (sections_of records.address_map) (record { 0 = start }))

-- a frame, renamed if there is a name
abbrev pub decorated_frame : Option (List ℕ) → FrameInfo → FrameInfo
decorated_frame name f = record f { function = option_or name f.function }

-- frames, the last of which is renamed if there is a name
abbrev pub decorated_last : Option (List ℕ) → List FrameInfo → List FrameInfo
decorated_last name [] = []
decorated_last name (f ∷ []) = decorated_frame name f ∷ []
decorated_last name (f ∷ next ∷ rest) = f ∷ decorated_last name (next ∷ rest)

-- the frames of a function, which is renamed if there is a name
abbrev pub decorated : Option (List ℕ) → FramesInfo → FramesInfo
decorated name f = record f { frames = decorated_last name f.frames }

-- the frames of a function, which is renamed by its public symbol if that is known
abbrev pub public_named : PublicNames → FramesInfo → FramesInfo
public_named known f = decorated (known_name known f.start_rva) f
