-- What a line adds, and then the others, is what all lines add.
use Rattle.std.proofs.Common.{◌<◌, length, rules}
use Rattle.pdb_source_urls.specs.SourceServer.{server_seen}
use Rattle.pdb_source_urls.proofs.ServerLemmas.{lines_step}
use Rattle.pdb_source_urls.proofs.source_server.read_server.Goals as goal

pub loop-rest-preserved : goal.loop-rest-preserved
loop-rest-preserved c =
    let some : 0 < length c.loop-rest.rest.now = search rules in
    let step = lines_step c.loop-rest.rest.now c.first_line.result.0.now c.first_line.result.1.now
    c.section_of-started.result c.loop-rest.section (server_seen c.loop-rest.server) some c.first_line.ensures.line
    c.first_line.ensures.rest c.section_of-started.ensures in
    let added = c.in_ok-add_line_by.ensures in
    let next = c.unwrap_or-section.ensures in
    cc
