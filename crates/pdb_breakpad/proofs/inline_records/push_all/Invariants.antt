-- What is written, and the records that are left, are all that was to be written. Those so far fit their types.
use Rattle.std.proofs.Common.{◌≡◌, ◌++◌, drop, string_bytes, take}
use Rattle.std.specs.List.{All, flat_map}
use Rattle.pdb_breakpad.specs.FunctionTexts.{inline_line}
use Rattle.pdb_breakpad.specs.WrittenRecords.{FitsCall, FitsSpan}
use Rattle.pdb_breakpad.proofs.inline_records.push_all.Given as goal

abbrev pub invariant-loop-inline_record : goal.invariant-loop-inline_record
invariant-loop-inline_record l = record {
  written : string_bytes l.text ++ flat_map inline_line (drop l.inline_record-index l.inlines)
      ≡ string_bytes l.initial.text ++ flat_map inline_line l.inlines;
  fit : All (λ inlined. FitsSpan FitsCall inlined.span) (take l.inline_record-index l.inlines);
}
