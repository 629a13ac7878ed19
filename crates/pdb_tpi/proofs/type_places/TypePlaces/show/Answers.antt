-- The record at a position, as a window shows it.
use Rattle.std.proofs.Common.{◌∙◌, sym}
use Rattle.pdb_msf.specs.StreamBlocks.{said_in}
use Rattle.pdb_tpi.proofs.SaidLemmas.{of_said, on_ok, where_said}
use Rattle.pdb_tpi.proofs.TypePlaceLemmas.{none_there, record_there}
use Rattle.pdb_tpi.proofs.type_places.TypePlaces.show.Goals as goal

pub returns-in-Some-clause-record : goal.returns-in-Some-clause-record
returns-in-Some-clause-record g c =
    on_ok c.show.result _ _ (λ same.
    where_said (said_in (g.S.Source.bytes c.args.source.now) c.args.self.now.records.blocks) _ (λ stream said lies shows.
    record_there c.args.self.now c.show.new.self stream c.args.position c.in-Some.start
    (sym c.start_of.ensures ∙ c.in-Some.is) lies
    (of_said _ _ stream said same shows))) c.show.ensures.same

pub returns-in-None-clause-record : goal.returns-in-None-clause-record
returns-in-None-clause-record g c =
    where_said (said_in (g.S.Source.bytes c.args.source.now) c.args.self.now.records.blocks) _ (λ stream said lies shows.
    none_there c.args.self.now c.args.window.now stream c.args.position (sym c.start_of.ensures ∙ c.in-None.is))
