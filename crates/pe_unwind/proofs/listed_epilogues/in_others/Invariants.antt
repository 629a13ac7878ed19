-- Among all codes none before lists an epilogue that has the offset.
use Rattle.std.proofs.Common.{◌≡◌, drop}
use Rattle.pe_unwind.specs.ListedEpilogues.{in_others}
use Rattle.pe_unwind.proofs.listed_epilogues.in_others.Given as goal

abbrev pub invariant-loop-code : goal.invariant-loop-code
invariant-loop-code l = in_others l.function_size l.size l.offset l.codes
    ≡ in_others l.function_size l.size l.offset (drop l.code-index l.codes)
