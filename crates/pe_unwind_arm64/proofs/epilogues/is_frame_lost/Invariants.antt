-- What holds of all codes holds of those that are left, after those that were passed.
use Rattle.std.proofs.Common.{◌≡◌, false, drop}
use Rattle.pe_unwind_arm64.specs.Epilogues.{is_frame_lost}
use Rattle.pe_unwind_arm64.proofs.epilogues.is_frame_lost.Given as goal

abbrev pub invariant-loop-code : goal.invariant-loop-code
invariant-loop-code l = is_frame_lost false l.codes ≡ is_frame_lost l.stored (drop l.code-index l.codes)
