-- All pairs are those that were appended, and those that are left.
use Rattle.std.proofs.Common.{◌≡◌, ◌++◌, ◌-◌}
use Rattle.pe_unwind_arm64.specs.Canonical.{pair_part}
use Rattle.pe_unwind_arm64.proofs.canonical.push_pairs.Given as goal

abbrev pub invariant-loop-done : goal.invariant-loop-done
invariant-loop-done l = l.initial.operations.items ++ pair_part l.saved l.count
    ≡ l.operations.items ++ pair_part l.saved (l.count - l.done)
