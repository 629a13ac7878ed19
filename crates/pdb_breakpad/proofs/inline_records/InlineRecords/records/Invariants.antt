-- The records so far, and those of the levels that are left, are all. The levels so far ascend.
use Rattle.std.proofs.Common.{◌≡◌, ◌++◌, drop, take}
use Rattle.std.specs.List.{All}
use Rattle.pdb_breakpad.specs.AddressSpans.{Ascend}
use Rattle.pdb_breakpad.specs.FunctionTexts.{inline_records_from}
use Rattle.pdb_breakpad.proofs.inline_records.InlineRecords.records.Given as goal

abbrev pub invariant-loop-level : goal.invariant-loop-level
invariant-loop-level l = record {
  made : l.records.items ++ inline_records_from l.level (drop l.level l.self) ≡ inline_records_from 0 l.self;
  order : All Ascend (take l.level l.self);
}
