use Rattle.std.proofs.Common.{◌∙◌}
use Rattle.pdb_inline.proofs.DepthTableLemmas.{painted_step, passed_step}
use Rattle.pdb_inline.proofs.depth_tables.segments_by_depth.Goals.{then-range-depths+in_ok-push_at, else-range-depths}
use Rattle.pdb_inline.proofs.depth_tables.segments_by_depth.Goals as goal

pub loop-listed-preserved : goal.loop-listed-preserved
loop-listed-preserved c = elim c.if-range-depths.branch [
  | then-range-depths+in_ok-push_at w ↦ record {
    count = rw w.all-is (w.in_ok-push_at.ensures.count ∙ c.loop-listed.invariant.count);
    last = λ depth x below. rw w.all-is
        (painted_step c.args.ranges.now c.loop-listed.listed-index depth x _ c.loop-listed.all.items
        w.push_at.new.all.items _ c.loop-listed-test.true w.in_ok-push_at.ensures.state
        (c.loop-listed.invariant.last depth x below));
  }
  | else-range-depths w ↦ record {
    count = rw w.all-is c.loop-listed.invariant.count;
    last = λ depth x below. rw w.all-is
        (passed_step c.args.ranges.now c.loop-listed.listed-index depth x c.args.depths _
        c.loop-listed.all.items _ c.loop-listed-test.true w.if-range-depths.false below
        (c.loop-listed.invariant.last depth x below));
  }
]
