-- What all codes undo is what those that are left undo after those that were passed.
use Rattle.std.proofs.Common.{◌≡◌, drop}
use Rattle.pe_unwind_arm64.specs.Rules.{codes_undone}
use Rattle.pe_unwind_arm64.proofs.rules.codes_undone.Given as goal

abbrev pub invariant-loop-code : goal.invariant-loop-code
invariant-loop-code l = codes_undone l.codes l.fn.unwound ≡ codes_undone (drop l.code-index l.codes) l.after
