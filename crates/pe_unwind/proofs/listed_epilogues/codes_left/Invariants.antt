-- What all codes undo is what those that are left undo behind those that were passed.
use Rattle.std.proofs.Common.{◌≡◌, drop}
use Rattle.pe_unwind.specs.ListedEpilogues.{codes_left}
use Rattle.pe_unwind.proofs.listed_epilogues.codes_left.Given as goal

abbrev pub invariant-loop-code : goal.invariant-loop-code
invariant-loop-code l = codes_left l.codes l.fn.popping ≡ codes_left (drop l.code-index l.codes) l.left
