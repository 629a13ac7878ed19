use Rattle.std.proofs.lemmas.Result.{on_ok_weaker}
use Rattle.std.proofs.Common.{arith, sym}
use Rattle.pdb_type_printer.proofs.StandsLemmas.{stands_all, stands_fewer}
use Rattle.pdb_type_printer.proofs.function_parts.function_arguments.Goals as goal

pub returns : goal.returns
returns c = on_ok_weaker c.push3.result (λ put w flags.
    let all = stands_fewer 1 (omega arith) (stands_all w put) in
    let wanted = sym c.if-without_arguments.ensures in
    let wanted_here = rw (← flags) at wanted in
    rw wanted_here all)
    c.push3.ensures
