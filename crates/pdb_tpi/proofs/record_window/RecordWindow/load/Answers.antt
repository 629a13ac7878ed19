-- A range of the stream as one of its records.
use Rattle.std.proofs.Common.{◌∙◌, ap, min, arith}
use Rattle.pdb_msf.specs.StreamBlocks.{said_in}
use Rattle.pdb_tpi.proofs.RecordWindowLemmas.{range_of_records}
use Rattle.pdb_tpi.proofs.SaidLemmas.{of_said, where_said}
use Rattle.pdb_tpi.proofs.record_window.RecordWindow.load.Goals as goal

pub returns-in-Ok-clause-answer : goal.returns-in-Ok-clause-answer
returns-in-Ok-clause-answer g c =
    where_said (said_in (g.S.Source.bytes c.args.source.now) c.args.records.now.blocks) _ (λ stream said.
    of_said _ _ stream said c.in-Ok.ensures.answer
    ∙ range_of_records c.args.count c.args.place c.args.records.now.place c.args.records.now.length c.min-count.result
    c.saturating_add-place.result stream (c.min-count.ensures ∙ ap (min c.args.count) c.saturating_sub.ensures)
    (λ within. omega (arith, within)))
