use Rattle.std.proofs.Common.{length, refl, arith}
use Rattle.std.proofs.lemmas.List.{length-append}
use Rattle.std.proofs.lemmas.Option.{slice_get_read}
use Rattle.std.proofs.Math.ListN.{drop_of_length-le}
use Rattle.pdb_tables.proofs.SegmentLemmas.{drop_is}
use Rattle.pdb_tables.proofs.TurnLemmas.{painted_in_turn-push}
use Rattle.pdb_functions.specs.Keys.{key}
use Rattle.pdb_functions.proofs.TableLemmas.{painted_position}
use Rattle.pdb_functions.proofs.span_table.segments_of.Goals as goal

pub loop-position-preserved : goal.loop-position-preserved
loop-position-preserved g c =
    let spans = c.args.spans.now in
    let span = c.index-spans-position.result in
    let left = drop_is _ _ _ c.index-spans-position.is c.loop-position-test.true in
    let got = slice_get_read spans
    (length spans) c.loop-position.position span refl c.loop-position-test.true c.index-spans-position.is in
    record {
      values = λ section_offset fits.
          rw (
            c.in_ok-push.ensures.items,
            painted_in_turn-push,
            c.keys-start.ensures section_offset fits,
            painted_position spans c.loop-position.position span (g.T.Span.is_over section_offset span) _ got,
          )
          (rw left at (c.loop-position.invariant.values section_offset fits));
      count = rw (c.in_ok-push.ensures.items, length-append) (omega arith);
    }

pub returns-clause-answer : goal.returns-clause-answer
returns-clause-answer g c = λ section_offset fits.
    let done = drop_of_length-le c.args.spans.now {i = c.loop-position.position} (omega arith) in
    rw (c.in_ok-table.ensures.answer (key section_offset), c.deref.ensures.value)
    (rw done at (c.loop-position.invariant.values section_offset fits))
