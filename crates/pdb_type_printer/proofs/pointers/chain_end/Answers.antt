use Rattle.std.proofs.lemmas.Result.{on_ok_weaker}
use Rattle.pdb_type_printer.proofs.StandsLemmas.{stands_here, stands_held_back}
use Rattle.pdb_type_printer.proofs.OtherKinds.{chain_end-other}
use Rattle.pdb_type_printer.proofs.pointers.chain_end.Goals as goal

pub returns-in-MemberFunction : goal.returns-in-MemberFunction
returns-in-MemberFunction c = on_ok_weaker c.pointers_to_method.result (λ ok w.
    rw c.in-MemberFunction.is (stands_here (ok w)))
    c.pointers_to_method.ensures

pub returns-in-Procedure : goal.returns-in-Procedure
returns-in-Procedure c = on_ok_weaker c.pointers_to_function.result (λ ok w. rw c.in-Procedure.is (stands_here (ok w)))
    c.pointers_to_function.ensures

pub returns-in_ok-hold_back-in_default : goal.returns-in_ok-hold_back-in_default
returns-in_ok-hold_back-in_default c = on_ok_weaker c.push.result (λ ok w.
    let stands = stands_held_back w c.args.attributes _ _ _ _ c.in_ok-hold_back-in_default.ensures
    ok in
    rw (chain_end-other w _ _ c.args.type_data.now c.in_default.not-MemberFunction c.in_default.not-Procedure) stands)
    c.push.ensures
