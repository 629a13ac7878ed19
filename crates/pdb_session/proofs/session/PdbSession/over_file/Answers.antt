-- What was read of the file's front, repaired, is a part of the file.
use Rattle.std.proofs.Common.{subst, sym}
use Rattle.pdb_session.proofs.FirstLemmas.{opened_reads_file}
use Rattle.pdb_session.proofs.SessionLemmas.{opened_tells}
use Rattle.pdb_session.specs.FileParts.{ReadsFile, first_known}
use Rattle.pdb_session.proofs.session.PdbSession.over_file.Goals as goal

pub over_front-requires : goal.over_front-requires
over_front-requires g c = record {
  file = subst (λ read. ReadsFile (g.S.Source.bytes c.args.reader.source) c.args.reader.map c.args.reader.places.items
      c.args.reader.lists (first_known read c.args.reader.places.items c.args.reader.lists))
      (sym c.in_ok-repairs.ensures.state) (opened_reads_file _ _ _ _ _ c.requires.file);
}

pub returns-clause-told : goal.returns-clause-told
returns-clause-told g c =
    opened_tells c.in_ok-session.session (g.S.Source.bytes c.args.reader.source) c.args.reader.map
    c.args.reader.places.items c.args.reader.lists c.args.front.records c.in_ok-repairs.repairs.items
    c.in_ok-session.ensures.bytes c.in_ok-session.ensures.length c.requires.file c.in_ok-repairs.ensures.answer
