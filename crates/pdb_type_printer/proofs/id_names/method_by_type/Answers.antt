use Rattle.std.proofs.lemmas.Result.{on_ok_weaker}
use Rattle.std.proofs.Common.{arith}
use Rattle.pdb_errors.specs.declared.error.Error.TheVariants.{MemberFunctionIdIsNotMemberFunctionType}
use Rattle.pdb_errors.specs.Errors.{Plain}
use Rattle.pdb_type_texts.specs.Documents.{OfError}
use Rattle.pdb_type_texts.specs.Plans.{failing}
use Rattle.pdb_type_texts.specs.Progress.{open_in}
use Rattle.pdb_type_printer.proofs.OtherKinds.{method_id-other}
use Rattle.pdb_type_printer.proofs.TurnLemmas.{advances_fewer, advances_failed, advances_stands}
use Rattle.pdb_type_printer.proofs.id_names.method_by_type.Goals as goal

pub returns-in-MemberFunction : goal.returns-in-MemberFunction
returns-in-MemberFunction c = on_ok_weaker c.method.result (λ ok w flags failed.
    rw c.in-MemberFunction.is (advances_stands w 0 _ c.args.progress.now _
    (ok w flags) failed))
    c.method.ensures

pub returns-in_default : goal.returns-in_default
returns-in_default c = λ w flags failed.
    let error = Plain MemberFunctionIdIsNotMemberFunctionType in
    let fails = advances_failed w (OfError error) c.args.progress.now _ failed c.requires.no_failure c.fail.ensures in
    let fewer = advances_fewer w (failing error) 1 0 c.args.progress.now _ failed failed (omega arith) fails in
    rw (method_id-other w c.args.id.now
    (open_in c.args.progress.now.steps) c.args.type_data.now c.in_default.not-MemberFunction) fewer
