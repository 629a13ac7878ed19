-- The item of the record that the window shows.
use Rattle.std.proofs.Common.{◌∙◌, Some, ap, sym}
use Rattle.std.specs.Option.{option_map}
use Rattle.pdb_msf.specs.StreamBlocks.{said_in}
use Rattle.pdb_tpi.proofs.ItemLemmas.{item_made}
use Rattle.pdb_tpi.proofs.SaidLemmas.{of_said, where_said}
use Rattle.pdb_tpi.specs.ItemStreams.{item_of}
use Rattle.pdb_tpi.specs.TypeRecords.{TypeBytes}
use Rattle.pdb_tpi.proofs.type_places.TypePlaces.item_at.Goals as goal

pub returns-clause-answer : goal.returns-clause-answer
returns-clause-answer g c =
    where_said (said_in (g.S.Source.bytes c.args.source.now) c.args.self.now.records.blocks) _
    (λ stream said lies shows.
    ap Some (item_made g.I.ItemIndex.meaning c.args.self.now.first c.args.position c.index_at.result c.in-Some.record
    _ _ c.index_at.ensures c.of_number.ensures (c.in_ok-content.ensures
    ∙ ap (λ (r : TypeBytes). g.I.ItemIndex.meaning.content r.kind r.content) c.record.view_is))
    ∙ ap (option_map (item_of g.I.ItemIndex.meaning c.args.self.now.first c.args.position))
    (sym c.in-Some.is ∙ c.shown.ensures ∙ of_said _ _ stream said c.in_ok-show.ensures.record lies shows))
