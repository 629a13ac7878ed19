use Rattle.std.proofs.Common.{◌≡◌, drop}
use Rattle.std.specs.BTreeMap.{get}
use Rattle.std.specs.Option.{option_copied, option_or}
use Rattle.pdb_records.specs.Lines.{lines_at}
use Rattle.pdb_records.specs.declared.addresses.PdbInternalSectionOffset.{PdbInternalSectionOffset}
use Rattle.pdb_functions.specs.Starts.{section_offset_cmp}
use Rattle.pdb_frames.proofs.line_tables.LineEntries.new.Given as goal

-- what is known, else what is left gives, is what all give
abbrev pub invariant-loop-entry : goal.invariant-loop-entry
invariant-loop-entry l = (section_offset : PdbInternalSectionOffset)
    → option_or (option_copied (get section_offset_cmp l.known section_offset))
    (lines_at section_offset (drop l.entry-index l.program.entries)) ≡ lines_at section_offset l.program.entries
