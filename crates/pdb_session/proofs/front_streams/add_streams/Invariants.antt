-- The excerpt is of the file, and has the streams of the numbers so far and what it had; the source is the same.
use Rattle.std.proofs.Common.{◌≡◌, take}
use Rattle.pdb_msf.specs.MsfLayout.{IfFile, IsSubsetOf, with_bytes}
use Rattle.pdb_session.specs.FrontStreams.{HasStreams, KeepsStreams}
use Rattle.pdb_session.proofs.front_streams.add_streams.Given as goal

abbrev pub invariant-loop-number : goal.invariant-loop-number
invariant-loop-number g l = record {
  added : IsSubsetOf l.fn.excerpt l.map → IfFile (g.S.Source.bytes l.fn.source) l.map.file_length (λ file.
      HasStreams l.excerpt (with_bytes file l.map) (take l.number-index l.numbers));
  kept : IsSubsetOf l.fn.excerpt l.map → IfFile (g.S.Source.bytes l.fn.source) l.map.file_length (λ file.
      KeepsStreams (with_bytes file l.map) l.fn.excerpt l.excerpt);
  excerpt : IsSubsetOf l.fn.excerpt l.map → IsSubsetOf l.excerpt l.map;
  inputs : g.S.Source.bytes l.source ≡ g.S.Source.bytes l.fn.source;
  refusals : g.S.Source.refuses_from l.source ≡ g.S.Source.refuses_from l.fn.source;
}
