use Rattle.std.proofs.Common.{arith}
use Rattle.pdb_inline.proofs.DepthTableLemmas.{none_at_more}
use Rattle.pdb_inline.proofs.depth_tables.no_segments.Goals as goal

pub loop-alloc-preserved : goal.loop-alloc-preserved
loop-alloc-preserved c = record {
  count = omega (arith, c.in_ok-push.ensures.len, c.len.ensures);
  none = rw c.in_ok-push.ensures.items
      (none_at_more c.loop-alloc.all.items c.new.result c.new.ensures.items c.loop-alloc.invariant.none);
}
