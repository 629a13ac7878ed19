-- A size that is wanted is kept where the item that was read is settled.
use Rattle.std.proofs.Common.{◌∙◌, Some, sym}
use Rattle.pdb_msf.specs.StreamBlocks.{said_in}
use Rattle.pdb_tpi.proofs.SaidLemmas.{of_said, where_said}
use Rattle.pdb_tpi.specs.TypePlaces.{list_at}
use Rattle.pdb_session.proofs.DefinitionLemmas.{one_settled}
use Rattle.pdb_session.proofs.definitions.keeps_size.Goals as goal

pub returns-in-Some-clause-answer : goal.returns-in-Some-clause-answer
returns-in-Some-clause-answer g c =
    where_said (said_in (g.S.Source.bytes c.args.source.now) c.args.places.now.records.blocks) _
    (λ stream said lies shows. one_settled c.args.wanted c.is_settled.result c.args.names.now
    (list_at c.args.places.now stream) c.args.position (Some c.in-Some.item) c.if-not-wanted.false
    (sym c.in-Some.is ∙ of_said _ _ stream said c.in_ok-item.ensures.answer lies shows) c.is_settled.ensures)
