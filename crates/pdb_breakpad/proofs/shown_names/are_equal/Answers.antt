-- Frames of which a symbol file says the same, one by one.
use Rattle.std.proofs.Common.{arith}
use Rattle.pdb_breakpad.proofs.FunctionRecordLemmas.{same_texts}
use Rattle.pdb_breakpad.proofs.shown_names.are_equal.Goals as goal

pub returns : goal.returns
returns c = λ _. same_texts c.args.frames.now c.args.others.now c.if-frames-others.false
    (λ position d below. c.loop-position.invariant position d (omega (arith, below, c.loop-position-test.false)))
