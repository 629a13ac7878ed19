-- No code before the position has the index.
use Rattle.std.proofs.Common.{◌≡◌, drop}
use Rattle.pe_unwind_arm64.specs.UnwindCodes.{codes_from}
use Rattle.pe_unwind_arm64.proofs.unwind_codes.codes_from.Given as goal

abbrev pub invariant-loop-position : goal.invariant-loop-position
invariant-loop-position l = codes_from l.index l.codes ≡ codes_from l.index (drop l.position l.codes)
