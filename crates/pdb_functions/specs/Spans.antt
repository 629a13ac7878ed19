-- Which contributions and functions cover a section offset.
use Rattle.std.specs.Prelude.{Bool, ◌+◌, ◌&&◌, ◌==◌, nat_le, nat_lt}
use Rattle.pdb_records.specs.declared.addresses.PdbInternalSectionOffset.{PdbInternalSectionOffset}
use Rattle.pdb_functions.specs.declared.merged_contributions.ModuleSectionContribution.{ModuleSectionContribution}
use Rattle.pdb_functions.specs.GlobalFunctions.{GlobalFunction}
use Rattle.pdb_functions.specs.Procedures.{ModuleProcedure}

-- whether a merged contribution covers a section offset: from its start up to its end
abbrev pub contribution_covers : PdbInternalSectionOffset → ModuleSectionContribution → Bool
contribution_covers section_offset c =
    (c.section_index == section_offset.section) && nat_le c.start_offset section_offset.offset
    && nat_lt section_offset.offset c.end_offset

-- whether a procedure covers a section offset: one of its bytes is there
abbrev pub procedure_covers : PdbInternalSectionOffset → ModuleProcedure → Bool
procedure_covers section_offset p =
    (p.offset.section == section_offset.section) && nat_le p.offset.offset section_offset.offset
    && nat_lt section_offset.offset (p.offset.offset + p.len)

-- whether a global function may cover a section offset: anything after its start in its section
abbrev pub global_function_covers : PdbInternalSectionOffset → GlobalFunction → Bool
global_function_covers section_offset f = (f.start.section == section_offset.section)
    && nat_le f.start.offset section_offset.offset
