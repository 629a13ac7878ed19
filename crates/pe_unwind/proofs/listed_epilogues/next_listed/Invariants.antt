-- None of the offsets that were passed is in an epilogue that is listed.
use Rattle.std.proofs.Common.{◌≡◌, ◌≤◌, ◌<◌, ℕ, false}
use Rattle.std.specs.Prelude.{is_some}
use Rattle.pe_unwind.specs.ListedEpilogues.{listed_rules}
use Rattle.pe_unwind.proofs.listed_epilogues.next_listed.Given as goal

abbrev pub invariant-loop-at : goal.invariant-loop-at
invariant-loop-at l = (at : ℕ) → at < l.at → l.from ≤ at → is_some (listed_rules l.function at) ≡ false
