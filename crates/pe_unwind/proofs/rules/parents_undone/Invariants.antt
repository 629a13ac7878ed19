-- What all parents undo is what those that are left undo behind those that were passed.
use Rattle.std.proofs.Common.{◌≡◌, drop}
use Rattle.pe_unwind.specs.Rules.{parents_undone}
use Rattle.pe_unwind.proofs.rules.parents_undone.Given as goal

abbrev pub invariant-loop-parent : goal.invariant-loop-parent
invariant-loop-parent l = parents_undone l.parents l.fn.unwound
    ≡ parents_undone (drop l.parent-index l.parents) l.after
