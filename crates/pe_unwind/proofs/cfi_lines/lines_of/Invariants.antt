-- Up to the offset the lines show the function's rules, and from there on the last ones; all lines are before it.
use Rattle.std.proofs.Common.{◌≡◌, ◌≤◌, ◌<◌, ◌-◌, ℕ, length, Some}
use Rattle.pe_unwind.specs.CfiLines.{Ascend, shown}
use Rattle.pe_unwind.specs.CfiRecords.{AreWhole}
use Rattle.pe_unwind.specs.Functions.{rule_at}
use Rattle.pe_unwind.proofs.cfi_lines.lines_of.Given as goal

abbrev pub invariant-loop-offset : goal.invariant-loop-offset
invariant-loop-offset l = record {
  within : l.offset ≤ length l.code;
  shows : (at : ℕ) → at < l.offset → shown l.lines.items at ≡ Some (rule_at l.function l.code at);
  last : (at : ℕ) → l.offset ≤ at → shown l.lines.items at ≡ l.last;
  ascend : Ascend l.lines.items l.offset;
  whole : AreWhole l.lines.items;
}

-- how many offsets are left
abbrev pub decreases-loop-offset : goal.decreases-loop-offset
decreases-loop-offset l = length l.code - l.offset
