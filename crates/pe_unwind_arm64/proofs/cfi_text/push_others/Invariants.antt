-- The records of all lines are those that were appended, and those of the lines that are left.
use Rattle.std.proofs.Common.{◌≡◌, ◌++◌, drop}
use Rattle.std.specs.Prelude.{string_bytes}
use Rattle.pe_unwind_arm64.specs.CfiText.{later_texts}
use Rattle.pe_unwind_arm64.proofs.cfi_text.push_others.Given as goal

abbrev pub invariant-loop-line : goal.invariant-loop-line
invariant-loop-line l = string_bytes l.initial.text ++ later_texts l.begin l.rules l.lines
    ≡ string_bytes l.text ++ later_texts l.begin l.old (drop l.line-index l.lines)
