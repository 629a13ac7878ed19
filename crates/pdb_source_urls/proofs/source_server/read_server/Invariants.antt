-- With what the lines add that are left, the data is that of all lines; each line makes the text shorter.
use Rattle.std.proofs.Common.{◌≡◌, length}
use Rattle.pdb_source_urls.specs.SourceServer.{lines, server_of, server_seen, with_lines}
use Rattle.pdb_source_urls.proofs.source_server.read_server.Given as goal

abbrev pub invariant-loop-rest : goal.invariant-loop-rest
invariant-loop-rest l = with_lines l.section (lines l.rest) (server_seen l.server) ≡ server_of l.text

abbrev pub decreases-loop-rest : goal.decreases-loop-rest
decreases-loop-rest l = length l.rest
