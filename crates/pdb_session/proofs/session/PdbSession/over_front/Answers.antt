-- No module was read yet.
use Rattle.std.proofs.Common.{◌∙◌, false, length, refl, rules}
use Rattle.std.proofs.lemmas.List.{length-map}
use Rattle.pdb_session.proofs.FirstLemmas.{resized}
use Rattle.pdb_session.proofs.SessionLemmas.{count_by_reader, listed, told_none}
use Rattle.pdb_session.specs.FileParts.{first_known}
use Rattle.pdb_session.specs.Session.{SessionFile}
use Rattle.pdb_session.proofs.session.PdbSession.over_front.Goals as goal

pub returns-clause-untold : goal.returns-clause-untold
returns-clause-untold g c =
    let session : SessionFile = record {
      known = record {
        records = c.args.records;
        all = false;
        modules = c.resize.new.self.items;
        types = c.in_ok-types.types;
        sizes = c.in_ok-types.sizes;
        ids = c.in_ok-types.ids;
      };
      kept = listed c.in_ok-kept.kept.items;
      bytes = g.S.Source.bytes c.args.reader.source;
      file_length = c.args.reader.map.file_length;
    } in
    told_none session (length c.args.reader.places.items)
    (resized c.resize.new.self.items c.new-modules.result.items _ c.module_count.result
    (length c.args.reader.places.items) c.in_ok-resize.ensures.items c.new-modules.ensures.items
    c.new-modules.ensures.len c.module_count.ensures)
    (length-map c.in_ok-kept.kept.items (λ told. told.items) ∙ search rules)
    (count_by_reader session (g.S.Source.bytes c.args.reader.source) c.args.reader.map c.args.reader.places.items
    c.args.reader.lists (first_known c.args.records c.args.reader.places.items c.args.reader.lists) refl refl
    c.requires.file)
