-- The reader leaves what is left to be returned.
use Rattle.std.proofs.Common.{◌∙◌, ap, refl, sym}
use Rattle.std.specs.Option.{option_and_then, option_map_or}
use Rattle.pdb_session.proofs.SessionLemmas.{keeps_by_reader, listed}
use Rattle.pdb_session.specs.Session.{SessionFile}
use Rattle.pdb_session.proofs.session.PdbSession.read_owners.Goals as goal

pub returns-clause-untold : goal.returns-clause-untold
returns-clause-untold g c =
    let after : SessionFile = record {
      known = c.read_modules-read.new.known;
      kept = listed c.read_modules-read.new.kept.items;
      bytes = g.S.Source.bytes c.read_modules-read.new.self.source;
      file_length = c.read_modules-read.new.self.map.file_length;
    } in
    keeps_by_reader c.args.self.now after (g.S.Source.bytes c.in-Some.reader.source) c.in-Some.reader.map
    c.in-Some.reader.places.items c.in-Some.reader.lists c.self.inside.known c.self.inside.kept.items
    c.read_modules-read.new.kept.items
    (sym (ap (λ (s : SessionFile). s.bytes) c.self.view_is)
    ∙ ap (option_and_then (λ r. g.S.Source.bytes r.source)) c.in-Some.is)
    (sym (ap (λ (s : SessionFile). s.file_length) c.self.view_is)
    ∙ ap (λ reader. option_map_or (λ r. r.map.file_length) reader 0) c.in-Some.is)
    (sym (ap (λ (s : SessionFile). s.known) c.self.view_is))
    (sym (ap (λ (s : SessionFile). s.kept) c.self.view_is)) refl
    (rw c.in-Some.is at c.self.invariant.file) c.read_modules-read.ensures.untold
