use Rattle.std.proofs.lemmas.Result.{on_ok_weaker}
use Rattle.pdb_type_printer.proofs.signature_printer.by_type.Goals as goal

pub returns-in-MemberFunction : goal.returns-in-MemberFunction
returns-in-MemberFunction c = on_ok_weaker c.method.result (λ ok w flags. rw c.in-MemberFunction.is (ok w flags))
    c.method.ensures

pub returns-in-Procedure : goal.returns-in-Procedure
returns-in-Procedure c = on_ok_weaker c.procedure.result (λ ok w flags. rw c.in-Procedure.is (ok w flags))
    c.procedure.ensures
