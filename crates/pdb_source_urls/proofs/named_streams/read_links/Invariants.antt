-- With the entries of the streams whose numbers are left, the entries are those of the file; the source is the same.
use Rattle.std.proofs.Common.{◌≡◌, ◌-◌, map}
use Rattle.pdb_msf.specs.Msf.{stream_of}
use Rattle.pdb_msf.specs.MsfLayout.{IfFile, with_bytes}
use Rattle.pdb_source_urls.specs.NamedStreams.{links_of, with_numbered}
use Rattle.pdb_source_urls.specs.SourceLinks.{link_seen}
use Rattle.pdb_source_urls.proofs.named_streams.read_links.Given as goal

abbrev pub invariant-loop-number : goal.invariant-loop-number
invariant-loop-number g l = record {
  answer : IfFile (g.S.Source.bytes l.fn.source) l.layout.file_length (λ file.
      stream_of (with_bytes file l.layout) 1 ≡ l.info
      → with_numbered (with_bytes file l.layout) (64 - l.number) l.number (map link_seen l.links.items)
      ≡ links_of (with_bytes file l.layout));
  inputs : g.S.Source.bytes l.source ≡ g.S.Source.bytes l.fn.source;
  refusals : g.S.Source.refuses_from l.source ≡ g.S.Source.refuses_from l.fn.source;
}
