-- One pair more.
use Rattle.pe_unwind_arm64.proofs.PackedLemmas.{one_copy_more}
use Rattle.pe_unwind_arm64.specs.declared.unwind_codes.Operation.TheVariants.{SaveFloats}
use Rattle.pe_unwind_arm64.proofs.canonical.push_floats.Goals as goal

pub loop-preserved : goal.loop-preserved
loop-preserved c =
    one_copy_more SaveFloats c.args.count c.loop.counter _ _ _ c.loop-test.true c.in_ok-push.ensures.items
    c.loop.invariant
