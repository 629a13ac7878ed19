-- One pair more.
use Rattle.pe_unwind_arm64.proofs.PackedLemmas.{one_pair_more}
use Rattle.pe_unwind_arm64.proofs.canonical.push_pairs.Goals as goal

pub loop-done-preserved : goal.loop-done-preserved
loop-done-preserved c =
    one_pair_more c.args.saved c.args.count c.loop-done.done _ _ _ _ c.loop-done-test.true
    c.pair_operation.ensures c.in_ok-push.ensures.items c.loop-done.invariant
