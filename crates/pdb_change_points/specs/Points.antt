-- The addresses at which records start and end.
use Rattle.std.specs.Prelude.{ℕ, ◌+◌, ◌<◌, List, [], ◌∷◌, ◌++◌, Option, Some, None}
use Rattle.std.specs.List.{flat_map}
use Rattle.pdb_records.specs.Addresses.{rva, rva_of}
use Rattle.pdb_records.specs.declared.addresses.AddressRange.{AddressRange}
use Rattle.pdb_records.specs.declared.addresses.Rva.{Rva}
use Rattle.pdb_records.specs.declared.lines.LineInfo.{LineInfo}
use Rattle.pdb_records.specs.declared.lines.SymbolLines.{SymbolLines}
use Rattle.pdb_functions.specs.GlobalFunctions.{GlobalFunction}
use Rattle.pdb_functions.specs.Procedures.{ModuleProcedure}
use Rattle.pdb_functions.specs.declared.merged_contributions.ModuleSectionContribution.{ModuleSectionContribution}
use Rattle.pdb_inline.specs.declared.inline_ranges.InlineRange.{InlineRange}

-- an optional address as a list of change points
abbrev pub point_of : Option Rva → List ℕ
point_of None = []
point_of (Some address) = address.0 ∷ []

-- the change point at an offset in a section: its address, if it fits in 32 bits
abbrev pub point_at : List AddressRange → ℕ → ℕ → List ℕ
point_at sections section offset = point_of (rva sections (record { section = section; offset = offset }))

-- the change points of the address map: the start and the end of each range
abbrev pub map_points : List AddressRange → List ℕ
map_points sections =
    flat_map (λ range. point_of (rva_of range.virtual_address)
    ++ point_of (rva_of (range.virtual_address + range.virtual_size))) sections

-- the change points of merged contributions: the start and the end of each
abbrev pub contribution_points : List AddressRange → List ModuleSectionContribution → List ℕ
contribution_points sections contributions =
    flat_map (λ c. point_at sections c.section_index c.start_offset
    ++ point_at sections c.section_index c.end_offset) contributions

-- the change points of global functions: the start of each
abbrev pub global_points : List AddressRange → List GlobalFunction → List ℕ
global_points sections globals = flat_map (λ f. point_at sections f.start.section f.start.offset) globals

-- the change points of procedures: the start and the end of each
abbrev pub procedure_points : List AddressRange → List ModuleProcedure → List ℕ
procedure_points sections procedures =
    flat_map (λ p. point_at sections p.offset.section p.offset.offset
    ++ point_at sections p.offset.section (p.offset.offset + p.len)) procedures

-- the change points of line rows in a section: the offset of each
abbrev pub row_points : List AddressRange → ℕ → List LineInfo → List ℕ
row_points sections section rows = flat_map (λ row. point_at sections section row.offset) rows

-- the change points of the entries of a line program: those of their rows, each in the section of its entry
abbrev pub entry_points : List AddressRange → List SymbolLines → List ℕ
entry_points sections entries =
    flat_map (λ entry. row_points sections entry.offset.section entry.lines.items) entries

-- the change points of inline ranges in a section: the start and the end of each
abbrev pub range_points : List AddressRange → ℕ → List InlineRange → List ℕ
range_points sections section ranges =
    flat_map (λ range. point_at sections section range.start_offset
    ++ point_at sections section range.end_offset) ranges

-- a number isn't above one address and at or below another
abbrev pub IsOutside : ℕ → ℕ → ℕ → Type 0
IsOutside x y point = x < point → y < point
