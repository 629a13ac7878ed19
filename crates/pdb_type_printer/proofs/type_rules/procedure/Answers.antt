use Rattle.std.proofs.lemmas.Result.{on_ok_weaker}
use Rattle.std.proofs.Common.{arith}
use Rattle.pdb_type_printer.proofs.StandsLemmas.{stands_all, stands_fewer}
use Rattle.pdb_type_printer.proofs.type_rules.procedure.Goals as goal

pub returns : goal.returns
returns c = on_ok_weaker c.push3.result (λ put w flags.
    let all = stands_fewer 0 (omega arith) (stands_all w put) in
    rw (c.unless_left_out-return_type.ensures, c.is_left_out.ensures, ← flags) at all)
    c.push3.ensures
