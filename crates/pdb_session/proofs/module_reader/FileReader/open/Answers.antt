-- What was read of the front is the file's.
use Rattle.std.proofs.Common.{◌∙◌, sym}
use Rattle.pdb_msf.proofs.KnownLemmas.{if_file}
use Rattle.pdb_session.proofs.AddedStreamLemmas.{of_known}
use Rattle.pdb_session.proofs.FileLemmas.{file_opened}
use Rattle.pdb_session.proofs.module_reader.FileReader.open.Goals as goal

pub returns-clause-file : goal.returns-clause-file
returns-clause-file g c = if_file _ _ _ (λ file is long.
    let mapped_from = sym c.read-2.ensures.inputs ∙ is in
    let opened_from = sym c.read.ensures.inputs ∙ mapped_from in
    file_opened file c.in_ok-map.map c.in_ok-streams.streams.excerpt c.in_ok-streams.streams.types
    c.in_ok-streams.streams.ids c.in_ok-front.front.places.items c.in_ok-front.front.lists
    c.in_ok-front.front.front.records long
    (of_known _ file _ _ opened_from (long ∙ c.in_ok-map.ensures.length) c.in_ok-map.ensures.answer)
    (of_known _ file _ _ mapped_from long c.in_ok-streams.ensures.front)
    (of_known _ file _ _ mapped_from long c.in_ok-streams.ensures.types)
    (of_known _ file _ _ mapped_from long c.in_ok-streams.ensures.ids)
    (rw c.in_ok-map.ensures.length c.in_ok-front.ensures.places) c.in_ok-front.ensures.front c.in_ok-front.ensures.unread
    c.in_ok-front.ensures.types c.in_ok-front.ensures.ids c.in_ok-front.ensures.type_places
    c.in_ok-front.ensures.id_places)
