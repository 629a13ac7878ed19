use Rattle.std.proofs.lemmas.Result.{on_ok_weaker}
use Rattle.pdb_type_printer.proofs.StandsLemmas.{stands_here}
use Rattle.pdb_type_printer.proofs.OtherKinds.{behind_modifier-other}
use Rattle.pdb_type_printer.proofs.pointers.behind_modifier.Goals as goal

pub returns-in-Pointer : goal.returns-in-Pointer
returns-in-Pointer c = on_ok_weaker c.further_pointer.result (λ ok w. rw c.in-Pointer.is (stands_here (ok w)))
    c.further_pointer.ensures

pub returns-in_default : goal.returns-in_default
returns-in_default c = on_ok_weaker c.chain_end.result (λ ok w.
    rw (behind_modifier-other w _ _ c.args.type_data.now c.in_default.not-Pointer)
    (ok w))
    c.chain_end.ensures
