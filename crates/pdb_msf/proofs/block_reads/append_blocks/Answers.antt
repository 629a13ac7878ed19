-- One block more: it joins the run before it, or that one is read and the block begins the next.
use Rattle.std.proofs.Common.{◌∙◌, sym, ap, arith}
use Rattle.pdb_msf.proofs.BlockLemmas.{begun, longer, one_begun, one_longer}
use Rattle.pdb_msf.proofs.EndLemmas.{block_ends}
use Rattle.pdb_msf.proofs.HeldLemmas.{begins_after}
use Rattle.pdb_msf.proofs.block_reads.append_blocks.Goals as goal
use Rattle.pdb_msf.proofs.block_reads.append_blocks.Goals.{then-start-run+in_ok-append_run}
use Rattle.pdb_msf.proofs.block_reads.append_blocks.Goals.{else-start-run+else-run-ge-LONGEST}

pub loop-number-preserved : goal.loop-number-preserved
loop-number-preserved g c = elim c.if-start-run.branch [
  | then-start-run+in_ok-append_run w ↦ record {
    answer = rw (w.bytes-is, w.run-is) (begun _ _ _ _ _ _ _ _ _ _ _ c.loop-number.invariant.inputs
        c.loop-number-test.true c.start-start.ensures.answer c.loop-number.invariant.answer
        w.in_ok-append_run.ensures.answer);
    begins = rw w.bytes-is (begins_after _ _ _ c.loop-number.invariant.begins w.append_run.ensures.begins);
    length = rw (w.bytes-is, w.run-is) (one_begun _ _ _ _ _ _ c.loop-number.invariant.length
        w.in_ok-append_run.ensures.length);
    inputs = ap g.S.Source.bytes w.source-is ∙ w.append_run.ensures.inputs ∙ c.loop-number.invariant.inputs;
    refusals = ap g.S.Source.refuses_from w.source-is ∙ w.append_run.ensures.refusals
        ∙ c.loop-number.invariant.refusals;
    within = rw w.run-is (omega (
      arith,
      c.start-start.ensures.answer,
      block_ends c.args.grid.block_size c.args.blocks.now c.loop-number.number-index (omega arith),
    ));
    starts = rw w.run-is (omega arith);
    short = rw w.run-is (omega arith);
  }
  | else-start-run+else-run-ge-LONGEST w ↦ record {
    answer = rw (w.bytes-is, w.run-is) (longer _ _ _ _ _ _ _ _ c.loop-number-test.true
        (sym c.start-start.ensures.answer ∙ w.if-start-run.false) c.loop-number.invariant.answer);
    begins = rw w.bytes-is c.loop-number.invariant.begins;
    length = rw (w.bytes-is, w.run-is) (one_longer _ _ _ _ _ c.loop-number.invariant.length);
    inputs = ap g.S.Source.bytes w.source-is ∙ c.loop-number.invariant.inputs;
    refusals = ap g.S.Source.refuses_from w.source-is ∙ c.loop-number.invariant.refusals;
    within = rw w.run-is (omega (
      arith,
      c.start-start.ensures.answer,
      block_ends c.args.grid.block_size c.args.blocks.now c.loop-number.number-index (omega arith),
    ));
    starts = rw w.run-is (omega arith);
    short = rw w.run-is (omega arith);
  }
]
