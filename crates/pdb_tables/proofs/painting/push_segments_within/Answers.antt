use Rattle.std.proofs.Common.{◌∙◌, append_assoc}
use Rattle.std.proofs.lemmas.Bool.{lt-leb, le-leb}
use Rattle.std.proofs.lemmas.List.{take_rest}
use Rattle.pdb_tables.proofs.SegmentLemmas.{drop_is, ordered_rest}
use Rattle.pdb_tables.proofs.PaintingLemmas.{segments_within_first}
use Rattle.pdb_tables.proofs.painting.push_segments_within.Goals as goal

pub returns-then-hi-segment-clause-state : goal.returns-then-hi-segment-clause-state
returns-then-hi-segment-clause-state g c =
    let s = c.index-segments-at.result in
    let e = drop_is _ _ _ c.index-segments-at.is c.loop-at-test.true in
    let ordered = rw e at c.loop-at.invariant.ordered in
    let first = segments_within_first c.args.lo _ s _ c.if-hi-segment.true ordered in
    rw c.in_ok-push_clipped.ensures (rw (e, first) at c.loop-at.invariant.appended)

pub returns-then-hi-segment-clause-answer : goal.returns-then-hi-segment-clause-answer
returns-then-hi-segment-clause-answer g c =
    let e = drop_is _ _ _ c.index-segments-at.is c.loop-at-test.true in
    let past = rw (e, lt-leb _ _ c.if-hi-segment.true) at c.loop-at.invariant.past in
    take_rest c.args.segments.now c.loop-at.at ∙ e ∙ past

pub loop-at-preserved : goal.loop-at-preserved
loop-at-preserved g c =
    let s = c.index-segments-at.result in
    let e = drop_is _ _ _ c.index-segments-at.is c.loop-at-test.true in
    record {
      appended = rw (c.in_ok-push_clipped.ensures, append_assoc) (rw e at c.loop-at.invariant.appended);
      past = rw (e, le-leb _ _ c.if-hi-segment.false) at c.loop-at.invariant.past;
      ordered = ordered_rest 0 s _ (rw e at c.loop-at.invariant.ordered);
    }
