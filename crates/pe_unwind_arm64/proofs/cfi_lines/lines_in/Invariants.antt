-- Up to the instruction the lines show the function's rules, and from there on the last ones; all lines are before it.
-- The epilogues that are left are those that don't end before it. Where the last instruction had the rules of the body,
-- those are the last.
use Rattle.std.proofs.Common.{◌≡◌, ◌≤◌, ◌<◌, ◌*◌, ℕ, true, Some}
use Rattle.pe_unwind_arm64.specs.CfiLines.{Ascend, shown}
use Rattle.pe_unwind_arm64.specs.CfiRecords.{AreWhole}
use Rattle.pe_unwind_arm64.specs.Epilogues.{epilogues_left}
use Rattle.pe_unwind_arm64.specs.Functions.{body_rules, rule_at}
use Rattle.pe_unwind_arm64.proofs.cfi_lines.lines_in.Given as goal

abbrev pub invariant-loop-instruction : goal.invariant-loop-instruction
invariant-loop-instruction l = record {
  shows : (at : ℕ) → at < 4 * l.instruction → shown l.lines.items at ≡ Some (rule_at l.info at);
  last : (at : ℕ) → 4 * l.instruction ≤ at → shown l.lines.items at ≡ l.last;
  ascend : Ascend l.lines.items (4 * l.instruction);
  whole : AreWhole l.lines.items;
  left : (at : ℕ) → l.instruction ≤ at → epilogues_left at l.left ≡ epilogues_left at l.info.epilogues;
  plain : l.was_plain ≡ true → l.last ≡ Some (body_rules l.info);
}
