-- What a reader finds in a small symbol file.
use Rattle.std.proofs.Common.{◌≡◌, Some, None, refl}
use Rattle.pdb_symbol_file_laws.specs.RecordReader.{shown_by_records, shown_by_text}
use Rattle.pdb_symbol_file_laws.specs.SmallFile.{small_file, small_frames, small_records}
use Rattle.pdb_symbol_file_laws.specs.SymbolTextReader.{number_and_more, number_at_end, read_line, read_text}

-- its lines are read one by one
pub small_read : read_text small_file ≡ small_records
unfolding read_text read_line number_and_more number_at_end
small_read = refl

-- an address in the inlined body has both frames
pub small_inside : shown_by_text small_file 0x1009 ≡ Some small_frames
unfolding shown_by_records read_text read_line number_and_more number_at_end
small_inside = refl

-- one after the function has none
pub small_behind : shown_by_text small_file 0x102a ≡ None
unfolding shown_by_records read_text read_line number_and_more number_at_end
small_behind = refl

-- what a reader finds
pub ruleset small = (small_read, small_inside, small_behind)
