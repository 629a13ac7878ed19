use Rattle.std.proofs.lemmas.Result.{on_ok_weaker}
use Rattle.std.proofs.Common.{arith}
use Rattle.pdb_type_printer.proofs.StandsLemmas.{stands_first, stands_fewer}
use Rattle.pdb_type_printer.proofs.type_rules.by_kind.Goals as goal

pub returns-in-Class : goal.returns-in-Class
returns-in-Class c = on_ok_weaker c.declared.result (λ ok w flags. let stands =
    rw c.class_word.ensures at (ok w) in rw c.in-Class.is stands)
    c.declared.ensures

pub returns-in-Union : goal.returns-in-Union
returns-in-Union c = on_ok_weaker c.declared-in-Union.result (λ ok w flags. rw c.in-Union.is (ok w))
    c.declared-in-Union.ensures

pub returns-in-Enumeration : goal.returns-in-Enumeration
returns-in-Enumeration c = on_ok_weaker c.declared-in-Enumeration.result (λ ok w flags. rw c.in-Enumeration.is (ok w))
    c.declared-in-Enumeration.ensures

pub returns-in-Enumerate : goal.returns-in-Enumerate
returns-in-Enumerate c = on_ok_weaker c.declared-in-Enumerate.result (λ ok w flags. rw c.in-Enumerate.is (ok w))
    c.declared-in-Enumerate.ensures

pub returns-in-MemberFunction : goal.returns-in-MemberFunction
returns-in-MemberFunction c = on_ok_weaker c.method.result (λ ok w flags. rw c.in-MemberFunction.is (ok w flags))
    c.method.ensures

pub returns-in-Procedure : goal.returns-in-Procedure
returns-in-Procedure c = on_ok_weaker c.procedure.result (λ ok w flags. rw c.in-Procedure.is (ok w flags))
    c.procedure.ensures

pub returns-in-ArgumentList : goal.returns-in-ArgumentList
returns-in-ArgumentList c = on_ok_weaker c.types_between.result (λ ok w flags. let stands =
    rw (c.deref.ensures.value, c.list.view_is, c.comma.ensures, ← flags) at (stands_fewer 0 (omega arith)
    (ok w)) in rw c.in-ArgumentList.is stands)
    c.types_between.ensures

pub returns-in-Pointer : goal.returns-in-Pointer
returns-in-Pointer c = on_ok_weaker c.pointer.result (λ ok w flags. rw c.in-Pointer.is (ok w))
    c.pointer.ensures

pub returns-in-Array : goal.returns-in-Array
returns-in-Array c = on_ok_weaker c.array.result (λ ok w flags. rw c.in-Array.is (ok w))
    c.array.ensures

pub returns-in-Other : goal.returns-in-Other
returns-in-Other c = on_ok_weaker c.push-in-Other.result (λ ok w flags. let all = stands_first w ok in
    let stands = rw (c.as_str.ensures.value, c.kind.view_is) at all in rw c.in-Other.is stands)
    c.push-in-Other.ensures
