-- Whether the record that the window shows is a definition, or there is none.
use Rattle.std.proofs.Common.{◌∙◌, Option, false, ap, sym}
use Rattle.std.specs.Option.{option_map_or}
use Rattle.pdb_msf.specs.StreamBlocks.{said_in}
use Rattle.pdb_tpi.proofs.SaidLemmas.{of_said, where_said}
use Rattle.pdb_tpi.specs.TypeRecords.{TypeBytes}
use Rattle.pdb_tpi.specs.TypeLeaves.{is_definition}
use Rattle.pdb_tpi.proofs.type_places.TypePlaces.is_definition.Goals as goal

pub returns-in-Some-clause-answer : goal.returns-in-Some-clause-answer
returns-in-Some-clause-answer g c =
    where_said (said_in (g.S.Source.bytes c.args.source.now) c.args.self.now.records.blocks) _
    (λ stream said lies shows.
    c.is_definition.ensures ∙ ap (λ (r : TypeBytes). is_definition r.kind r.content) c.record.view_is
    ∙ ap (λ (o : Option TypeBytes). option_map_or (λ bytes. is_definition bytes.kind bytes.content) o false)
    (sym c.in-Some.is ∙ c.shown.ensures ∙ of_said _ _ stream said c.in_ok-show.ensures.record lies shows))

pub returns-in-None-clause-answer : goal.returns-in-None-clause-answer
returns-in-None-clause-answer g c =
    where_said (said_in (g.S.Source.bytes c.args.source.now) c.args.self.now.records.blocks) _
    (λ stream said lies shows.
    ap (λ (o : Option TypeBytes). option_map_or (λ bytes. is_definition bytes.kind bytes.content) o false)
    (sym c.in-None.is ∙ c.shown.ensures ∙ of_said _ _ stream said c.in_ok-show.ensures.record lies shows))
