-- Up to the position the same registers are saved at the same places.
use Rattle.std.proofs.Common.{◌≡◌, take}
use Rattle.pe_unwind_arm64.proofs.rules.is_same_saved.Given as goal

abbrev pub invariant-loop-position : goal.invariant-loop-position
invariant-loop-position l = take l.position l.a ≡ take l.position l.b
