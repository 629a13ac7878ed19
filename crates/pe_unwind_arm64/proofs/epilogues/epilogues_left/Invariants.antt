-- All epilogues before the position end at the offset or before it.
use Rattle.std.proofs.Common.{◌≡◌, drop}
use Rattle.pe_unwind_arm64.specs.Epilogues.{epilogues_left}
use Rattle.pe_unwind_arm64.proofs.epilogues.epilogues_left.Given as goal

abbrev pub invariant-loop-position : goal.invariant-loop-position
invariant-loop-position l = epilogues_left l.offset l.epilogues
    ≡ epilogues_left l.offset (drop l.position l.epilogues)
