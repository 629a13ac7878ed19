-- A marked record adds its item, and another adds nothing; after the last mark the items are the list's.
use Rattle.std.proofs.Common.{◌≡◌, ◌∙◌, Some, None, ap, sym, append-nil, arith}
use Rattle.pdb_msf.specs.StreamBlocks.{said_in}
use Rattle.pdb_tpi.proofs.SaidLemmas.{of_said, where_said}
use Rattle.pdb_tpi.specs.ItemStreams.{item_of}
use Rattle.pdb_tpi.specs.TypePlaces.{list_at}
use Rattle.pdb_session.proofs.MarkedItemLemmas.{marked_made, none_marked_more, one_marked_more}
use Rattle.pdb_session.proofs.type_lists.marked_items.Goals as goal
use Rattle.pdb_session.proofs.type_lists.marked_items.Goals.{then-marked+in_ok-item+in-Some+in_ok-push, else-marked}
use Rattle.pdb_session.proofs.type_lists.marked_items.Goals.{else-marked-via-else-marked}
use Rattle.pdb_session.proofs.type_lists.marked_items.Goals.{else-marked-via-then-marked+in_ok-item+in-None-1}

pub loop-position-preserved : goal.loop-position-preserved
loop-position-preserved g c = record {
  answer = λ stream said lies.
      let still = ap (λ k. said_in k c.args.places.now.records.blocks) c.loop-position.invariant.inputs ∙ said in
      elim c.if-marked.branch [
        | then-marked+in_ok-item+in-Some+in_ok-push w ↦ one_marked_more
            (item_of g.I.ItemIndex.meaning c.args.places.now.first) c.loop-position.position c.args.marks.now
            (list_at c.args.places.now stream).records (Some w.in-Some.item) _ c.loop-position.items.items _
            c.loop-position-test.true w.if-marked.true
            (sym w.in-Some.is ∙ of_said _ _ stream still w.in_ok-item.ensures.answer lies
            (c.loop-position.invariant.shows stream said))
            (ap (λ v. v.items) w.items-is ∙ w.in_ok-push.ensures.items)
            (c.loop-position.invariant.answer stream said lies)
        | else-marked w ↦ elim w.else-marked.branch [
          | else-marked-via-else-marked x ↦ none_marked_more
              (item_of g.I.ItemIndex.meaning c.args.places.now.first) c.loop-position.position c.args.marks.now
              (list_at c.args.places.now stream).records _ c.loop-position.items.items _
              c.loop-position-test.true x.if-marked.false (ap (λ v. v.items) w.items-is)
              (c.loop-position.invariant.answer stream said lies)
          | else-marked-via-then-marked+in_ok-item+in-None-1 x ↦
              let none : x.in_ok-item.field-0 ≡ None = cc in
              one_marked_more
              (item_of g.I.ItemIndex.meaning c.args.places.now.first) c.loop-position.position c.args.marks.now
              (list_at c.args.places.now stream).records None _ c.loop-position.items.items _
              c.loop-position-test.true x.if-marked.true
              (sym none ∙ of_said _ _ stream still x.in_ok-item.ensures.answer lies
              (c.loop-position.invariant.shows stream said))
              (ap (λ v. v.items) w.items-is ∙ sym (append-nil c.loop-position.items.items))
              (c.loop-position.invariant.answer stream said lies)
        ]
      ];
  shows = λ stream said.
      let still = ap (λ k. said_in k c.args.places.now.records.blocks) c.loop-position.invariant.inputs ∙ said in
      let was = c.loop-position.invariant.shows stream said in
      elim c.if-marked.branch [
        | then-marked+in_ok-item+in-Some+in_ok-push w ↦
            rw w.window-is (of_said _ _ stream still w.item_at.ensures.shows was)
        | else-marked w ↦ elim w.else-marked.branch [
          | else-marked-via-else-marked x ↦ rw (w.window-is, x.window-is) was
          | else-marked-via-then-marked+in_ok-item+in-None-1 x ↦
              rw (w.window-is, x.window-is) (of_said _ _ stream still x.item_at.ensures.shows was)
        ]
      ];
  refusals = elim c.if-marked.branch [
    | then-marked+in_ok-item+in-Some+in_ok-push w ↦
        rw w.source-is (w.item_at.ensures.refusals ∙ c.loop-position.invariant.refusals)
    | else-marked w ↦ elim w.else-marked.branch [
      | else-marked-via-else-marked x ↦ rw (w.source-is, x.source-is) c.loop-position.invariant.refusals
      | else-marked-via-then-marked+in_ok-item+in-None-1 x ↦
          rw (w.source-is, x.source-is) (x.item_at.ensures.refusals ∙ c.loop-position.invariant.refusals)
    ]
  ];
  inputs = elim c.if-marked.branch [
    | then-marked+in_ok-item+in-Some+in_ok-push w ↦
        rw w.source-is (w.item_at.ensures.inputs ∙ c.loop-position.invariant.inputs)
    | else-marked w ↦ elim w.else-marked.branch [
      | else-marked-via-else-marked x ↦ rw (w.source-is, x.source-is) c.loop-position.invariant.inputs
      | else-marked-via-then-marked+in_ok-item+in-None-1 x ↦
          rw (w.source-is, x.source-is) (x.item_at.ensures.inputs ∙ c.loop-position.invariant.inputs)
    ]
  ];
}

pub returns-clause-answer : goal.returns-clause-answer
returns-clause-answer g c =
    where_said (said_in (g.S.Source.bytes c.args.source.now) c.args.places.now.records.blocks) _ (λ stream said lies.
    marked_made g.I.ItemIndex.meaning (list_at c.args.places.now stream) c.loop-position.position c.args.marks.now
    c.loop-position.items.items c.fault.result (omega arith) c.fault.ensures
    (c.loop-position.invariant.answer stream said lies))
