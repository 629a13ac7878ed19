use Rattle.std.proofs.lemmas.Result.{on_ok_weaker}
use Rattle.std.proofs.Common.{arith}
use Rattle.pdb_type_printer.proofs.StandsLemmas.{stands_all, stands_fewer}
use Rattle.pdb_type_printer.proofs.function_parts.further_types.Goals as goal

pub returns : goal.returns
returns c = on_ok_weaker c.push3.result (λ put w.
    let all = stands_fewer 1 (omega arith) (stands_all w put) in
    rw c.in-Some.ensures.cases.0 all)
    c.push3.ensures
