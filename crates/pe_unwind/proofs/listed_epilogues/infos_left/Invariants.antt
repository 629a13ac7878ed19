-- What all infos undo is what those that are left undo behind those that were passed.
use Rattle.std.proofs.Common.{◌≡◌, drop}
use Rattle.pe_unwind.specs.ListedEpilogues.{infos_left}
use Rattle.pe_unwind.proofs.listed_epilogues.infos_left.Given as goal

abbrev pub invariant-loop-info : goal.invariant-loop-info
invariant-loop-info l = infos_left l.infos l.fn.popping ≡ infos_left (drop l.info-index l.infos) l.left
