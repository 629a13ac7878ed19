-- What is written, and the lines that are left, are all that was to be written. Those so far fit their types.
use Rattle.std.proofs.Common.{◌≡◌, ◌++◌, drop, string_bytes, take}
use Rattle.std.specs.List.{All, flat_map}
use Rattle.pdb_breakpad.specs.FunctionTexts.{line_line}
use Rattle.pdb_breakpad.specs.WrittenRecords.{FitsPlace, FitsSpan}
use Rattle.pdb_breakpad.proofs.function_records.push_lines.Given as goal

abbrev pub invariant-loop-span : goal.invariant-loop-span
invariant-loop-span l = record {
  written : string_bytes l.text ++ flat_map line_line (drop l.span-index l.span-items)
      ≡ string_bytes l.initial.text ++ flat_map line_line l.span-items;
  fit : All (FitsSpan FitsPlace) (take l.span-index l.span-items);
}
