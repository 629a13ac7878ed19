-- One start more, a record that has a fault, and the end of the bytes.
use Rattle.std.proofs.Common.{◌∙◌, [], ap, arith, drop, length, refl, subst, sym}
use Rattle.pdb_msf.specs.StreamBlocks.{said_in}
use Rattle.pdb_msf.proofs.ItemListLemmas.{unread}
use Rattle.pdb_tpi.specs.RecordWindows.{SameRecord, records_in}
use Rattle.pdb_tpi.proofs.SaidLemmas.{of_said, where_said}
use Rattle.pdb_tpi.proofs.TypePlaceLemmas.{faulty_left, none_left, one_start_more}
use Rattle.pdb_tpi.specs.TypeRecords.{next_start}
use Rattle.pdb_tpi.proofs.type_places.read_starts.Goals as goal

pub loop-init : goal.loop-init
loop-init g c = record {
  answer = λ stream said long. unread (next_start (length (records_in c.args.records.now stream)))
      (records_in c.args.records.now stream) (records_in c.args.records.now stream) [] c.new-starts.result.items
      c.new-starts.ensures.items refl;
  shows = λ stream said. c.of_many-window.ensures (records_in c.args.records.now stream);
  refusals = refl;
  inputs = refl;
}

pub returns-then-left-eq0-clause-answer : goal.returns-then-left-eq0-clause-answer
returns-then-left-eq0-clause-answer g c =
    where_said (said_in (g.S.Source.bytes c.args.source.now) c.args.records.now.blocks) _ (λ stream said long.
    none_left (records_in c.args.records.now stream) c.new-rest.result c.loop.starts.items c.loop.counter c.loop.place
    (subst (λ xs. SameRecord xs (drop c.loop.place (records_in c.args.records.now stream)))
    (sym (c.new-rest.ensures ∙ c.at.ensures))
    (of_said _ _ stream (ap (λ k. said_in k c.args.records.now.blocks) c.loop.invariant.inputs ∙ said)
    c.in_ok-show.ensures.same (c.loop.invariant.shows stream said)))
    (sym c.len-left.ensures ∙ c.if-left-eq0.true) (c.loop.invariant.answer stream said long))

pub returns-in-Err-clause-answer : goal.returns-in-Err-clause-answer
returns-in-Err-clause-answer g c =
    where_said (said_in (g.S.Source.bytes c.args.source.now) c.args.records.now.blocks) _ (λ stream said long.
    faulty_left (records_in c.args.records.now stream) c.new-rest.result c.loop.starts.items c.loop.counter c.loop.place
    c.in-Err.error (omega (arith, long, c.loop-test.true))
    (subst (λ xs. SameRecord xs (drop c.loop.place (records_in c.args.records.now stream)))
    (sym (c.new-rest.ensures ∙ c.at.ensures))
    (of_said _ _ stream (ap (λ k. said_in k c.args.records.now.blocks) c.loop.invariant.inputs ∙ said)
    c.in_ok-show.ensures.same (c.loop.invariant.shows stream said)))
    (λ none. c.if-left-eq0.false (c.len-left.ensures ∙ none)) c.in-Err.ensures.refused
    (c.loop.invariant.answer stream said long))

pub loop-preserved : goal.loop-preserved
loop-preserved g c = record {
  answer = λ stream said long. one_start_more (records_in c.args.records.now stream) c.new-rest.result
      c.take_record.new.rest c.loop.starts.items c.push.new.self.items c.loop.counter c.loop.place c.offset_of.result
      c.saturating_add-place.result (omega (arith, long)) (omega (arith, long, c.loop-test.true))
      (subst (λ xs. SameRecord xs (drop c.loop.place (records_in c.args.records.now stream)))
      (sym (c.new-rest.ensures ∙ c.at.ensures))
      (of_said _ _ stream (ap (λ k. said_in k c.args.records.now.blocks) c.loop.invariant.inputs ∙ said)
      c.in_ok-show.ensures.same (c.loop.invariant.shows stream said)))
      c.in-Ok.ensures.there c.in-Ok.ensures.within c.in-Ok.ensures.state (omega (arith, c.offset_of.ensures))
      (omega (arith, c.saturating_add-place.ensures, c.len.ensures, c.len-left.ensures))
      c.in_ok-push-in-Ok.ensures.items (c.loop.invariant.answer stream said long);
  shows = λ stream said. of_said _ _ stream (ap (λ k. said_in k c.args.records.now.blocks) c.loop.invariant.inputs
      ∙ said) c.show.ensures.shows (c.loop.invariant.shows stream said);
  refusals = c.show.ensures.refusals ∙ c.loop.invariant.refusals;
  inputs = c.show.ensures.inputs ∙ c.loop.invariant.inputs;
}
