-- The modules so far are as their own streams have them, and the source says what it said.
use Rattle.std.proofs.Common.{◌≡◌, All}
use Rattle.pdb_msf.specs.MsfLayout.{IfFile}
use Rattle.pdb_session.specs.FileParts.{IsReadFrom}
use Rattle.pdb_session.proofs.module_reads.read_modules_at.Given as goal

abbrev pub invariant-loop-position : goal.invariant-loop-position
invariant-loop-position g l = record {
  answer : IfFile (g.S.Source.bytes l.fn.source) l.map.file_length (λ file.
      All (IsReadFrom file l.map l.places) l.read.items);
  inputs : g.S.Source.bytes l.source ≡ g.S.Source.bytes l.fn.source;
}
