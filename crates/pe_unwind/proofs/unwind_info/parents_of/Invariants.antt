-- The parents are those that were read, and those from the next one on.
use Rattle.std.proofs.Common.{◌≡◌, ◌-◌}
use Rattle.pe_unwind.specs.UnwindErrors.{behind}
use Rattle.pe_unwind.specs.UnwindInfo.{parents_of, parents_up_to}
use Rattle.pe_unwind.proofs.unwind_info.parents_of.Given as goal

abbrev pub invariant-loop : goal.invariant-loop
invariant-loop l = parents_of l.image l.fn.parent
    ≡ behind l.parents.items (parents_up_to (32 - l.counter) l.image l.next)
