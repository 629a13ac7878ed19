-- One item more, and all of them.
use Rattle.std.proofs.Common.{◌∙◌, Some, None, ap, sym, append-nil, arith, drop}
use Rattle.std.proofs.lemmas.List.{length-map}
use Rattle.pdb_msf.specs.StreamBlocks.{said_in}
use Rattle.pdb_tpi.proofs.ItemLemmas.{items_made, one_item_more}
use Rattle.pdb_tpi.proofs.SaidLemmas.{of_said, where_said}
use Rattle.pdb_tpi.specs.ItemStreams.{item_of}
use Rattle.pdb_tpi.specs.RecordWindows.{records_in}
use Rattle.pdb_tpi.specs.TypePlaces.{list_at}
use Rattle.pdb_tpi.specs.TypeRecords.{first_record}
use Rattle.pdb_tpi.proofs.type_places.TypePlaces.all_items.Goals as goal
use Rattle.pdb_tpi.proofs.type_places.TypePlaces.all_items.Goals.{in-Some+in_ok-push, in_default}

pub loop-position-preserved : goal.loop-position-preserved
loop-position-preserved g c = record {
  answer = λ stream said lies.
      let read = of_said _ _ stream (ap (λ k. said_in k c.args.self.now.records.blocks) c.loop-position.invariant.inputs
      ∙ said) c.in_ok-item.ensures.answer lies (c.loop-position.invariant.shows stream said) in
      elim c.match-branch-4.branch [
        | in-Some+in_ok-push w ↦ one_item_more (item_of g.I.ItemIndex.meaning c.args.self.now.first)
            c.loop-position.position (list_at c.args.self.now stream).records (Some w.in-Some.item) _
            c.loop-position.items.items _ (sym w.in-Some.is ∙ read)
            (ap (λ v. v.items) w.items-is ∙ w.in_ok-push.ensures.items)
            (c.loop-position.invariant.answer stream said lies)
        | in_default w ↦ one_item_more (item_of g.I.ItemIndex.meaning c.args.self.now.first)
            c.loop-position.position (list_at c.args.self.now stream).records None _ c.loop-position.items.items _
            (sym w.in_default.is ∙ read)
            (ap (λ v. v.items) w.items-is ∙ sym (append-nil c.loop-position.items.items))
            (c.loop-position.invariant.answer stream said lies)
      ];
  shows = λ stream said. of_said _ _ stream (ap (λ k. said_in k c.args.self.now.records.blocks)
      c.loop-position.invariant.inputs ∙ said) c.item_at.ensures.shows (c.loop-position.invariant.shows stream said);
  refusals = c.item_at.ensures.refusals ∙ c.loop-position.invariant.refusals;
  inputs = c.item_at.ensures.inputs ∙ c.loop-position.invariant.inputs;
}

pub returns-clause-answer : goal.returns-clause-answer
returns-clause-answer g c =
    where_said (said_in (g.S.Source.bytes c.args.source.now) c.args.self.now.records.blocks) _ (λ stream said lies.
    items_made g.I.ItemIndex.meaning (list_at c.args.self.now stream) c.loop-position.position
    c.loop-position.items.items c.fault.result (omega (
      arith,
      c.len.ensures,
      length-map c.args.self.now.starts.items
          (λ start. first_record (drop start (records_in c.args.self.now.records stream))),
    )) c.fault.ensures
    (c.loop-position.invariant.answer stream said lies))
