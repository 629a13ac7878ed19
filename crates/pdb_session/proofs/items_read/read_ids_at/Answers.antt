-- The marked ids.
use Rattle.pdb_tpi.proofs.SaidLemmas.{where_said}
use Rattle.pdb_session.proofs.ItemsReadLemmas.{ids_read, of_stream}
use Rattle.pdb_session.proofs.items_read.read_ids_at.Goals as goal

pub returns-clause-same : goal.returns-clause-same
returns-clause-same g c =
    where_said (g.S.Source.bytes c.args.source.now) _ (λ file is whole has.
    rw c.first.ensures (ids_read file c.args.places.now whole has c.in_ok-marks.marks.items c.in_ok-information.information
    c.in_ok-marks.ensures
    (rw c.deref.ensures.value at (of_stream _ file has.stream c.args.places.now.records.blocks _ is has.said
    c.in_ok-information.ensures.answer has.lies))))
