-- The marked types, with all definitions of the names that sizes are settled by.
use Rattle.std.proofs.Common.{◌∙◌, ap, length}
use Rattle.pdb_tpi.proofs.SaidLemmas.{where_said}
use Rattle.pdb_session.proofs.ItemsReadLemmas.{of_stream, types_read, written_back}
use Rattle.pdb_session.proofs.items_read.read_types_at.Goals as goal

pub returns-clause-same : goal.returns-clause-same
returns-clause-same g c =
    where_said (g.S.Source.bytes c.args.source.now) _ (λ file is whole has.
    let marks = written_back c.in_ok-marks.marks.items c.deref_mut.result.now c.mark_definitions.new.marks
    c.in_ok-marks.marks.len c.deref_mut.ensures.len c.deref_mut.ensures.value c.mark_definitions.ensures.length in
    let marked_from = c.mark_definitions.ensures.inputs ∙ is in
    let sized_from = c.settled_sizes.ensures.inputs ∙ marked_from in
    rw c.first-first.ensures (rw marks (types_read c.names-names.result.now file c.args.places.now whole has c.mark_definitions.new.marks
    c.in_ok-sizes.sizes.items c.in_ok-information.information
    (c.mark_definitions.ensures.length ∙ ap length c.deref_mut.ensures.value ∙ c.in_ok-marks.ensures)
    (c.in_ok-sizes.ensures.length ∙ ap length (c.deref.ensures.value ∙ marks))
    (of_stream _ file has.stream c.args.places.now.records.blocks _ is has.said
    c.in_ok-mark_definitions.ensures.marked has.lies)
    (rw (c.deref.ensures.value ∙ marks) at c.in_ok-sizes.ensures.marked)
    (of_stream _ file has.stream c.args.places.now.records.blocks _ marked_from has.said
    c.in_ok-sizes.ensures.named has.lies)
    (rw (c.deref-2.ensures.value ∙ marks) at (of_stream _ file has.stream c.args.places.now.records.blocks _ sized_from has.said
    c.in_ok-information.ensures.answer has.lies)))))
