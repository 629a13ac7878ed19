-- Line rows by the section offset of their function.
use Rattle.std.specs.Prelude.{List, Option, option_map, find}
use Rattle.pdb_records.specs.Addresses.{is_same_section_offset}
use Rattle.pdb_records.specs.Readings.{Read}
use Rattle.pdb_records.specs.declared.addresses.PdbInternalSectionOffset.{PdbInternalSectionOffset}
use Rattle.pdb_records.specs.declared.lines.SymbolLines.{SymbolLines}
use Rattle.pdb_records.specs.declared.lines.LineInfo.{LineInfo}

-- the rows of the first entry for a section offset
abbrev pub lines_at : PdbInternalSectionOffset → List SymbolLines → Option (Read LineInfo)
lines_at section_offset entries =
    option_map (λ entry. entry.lines) (find (λ entry. is_same_section_offset entry.offset section_offset) entries)
