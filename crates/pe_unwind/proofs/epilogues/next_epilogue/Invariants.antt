-- At none of the offsets that were passed does an epilogue go on.
use Rattle.std.proofs.Common.{◌≡◌, ◌≤◌, ◌<◌, ℕ, false, drop}
use Rattle.std.specs.Prelude.{is_some}
use Rattle.pe_unwind.specs.Epilogues.{epilogue_rules}
use Rattle.pe_unwind.proofs.epilogues.next_epilogue.Given as goal

abbrev pub invariant-loop-at : goal.invariant-loop-at
invariant-loop-at l = (at : ℕ) → at < l.at → l.from ≤ at
    → is_some (epilogue_rules l.function (drop at l.code)) ≡ false
