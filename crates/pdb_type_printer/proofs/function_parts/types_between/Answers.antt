use Rattle.std.proofs.lemmas.Result.{on_ok_weaker}
use Rattle.std.proofs.Common.{arith}
use Rattle.pdb_type_printer.proofs.StandsLemmas.{stands_all, stands_fewer}
use Rattle.pdb_type_printer.proofs.function_parts.types_between.Goals as goal

pub returns-in-Some : goal.returns-in-Some
returns-in-Some c = on_ok_weaker c.push2.result (λ put w.
    let all = stands_fewer 1 (omega arith) (stands_all w put) in
    rw c.in-Some.is all)
    c.push2.ensures

pub returns : goal.returns
returns c = on_ok_weaker c.push2-2.result (λ put w.
    let all = stands_fewer 1 (omega arith) (stands_all w put) in
    rw (c.in_default.is, c.in-Some-split_first.ensures.cases.0) all)
    c.push2-2.ensures
