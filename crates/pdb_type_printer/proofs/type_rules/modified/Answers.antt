use Rattle.std.proofs.lemmas.Result.{on_ok_weaker}
use Rattle.std.proofs.Common.{arith}
use Rattle.pdb_type_printer.proofs.StandsLemmas.{stands_all, stands_fewer}
use Rattle.pdb_type_printer.proofs.OtherKinds.{modified-other}
use Rattle.pdb_type_printer.proofs.type_rules.modified.Goals as goal

pub returns-in-Pointer : goal.returns-in-Pointer
returns-in-Pointer c = on_ok_weaker c.pointer.result (λ ok w. rw c.in-Pointer.is (ok w))
    c.pointer.ensures

pub returns-in_default : goal.returns-in_default
returns-in_default c = on_ok_weaker c.push2.result (λ put w.
    let all = stands_fewer 0 (omega arith) (stands_all w put) in
    rw (modified-other w c.args.constant _ c.args.type_data.now c.in_default.not-Pointer c.in_default.not-Primitive)
    (rw c.const_word.ensures at all))
    c.push2.ensures
