-- The modules so far, with those at the places that are left, are those at all places, and the source says what it said.
use Rattle.std.proofs.Common.{◌≡◌, ◌++◌, drop, length, map}
use Rattle.pdb_container.specs.ModulePlaces.{module_of}
use Rattle.pdb_msf.specs.MsfLayout.{IfFile, with_bytes}
use Rattle.pdb_session.proofs.module_reads.read_modules.Given as goal

abbrev pub invariant-loop-place : goal.invariant-loop-place
invariant-loop-place g l = record {
  answer : IfFile (g.S.Source.bytes l.fn.source) l.streams.file_length (λ file.
      l.infos.items ++ map (module_of (with_bytes file l.streams)) (drop l.place-index l.places)
      ≡ map (module_of (with_bytes file l.streams)) l.places);
  count : length l.infos.items ≡ l.place-index;
  inputs : g.S.Source.bytes l.source ≡ g.S.Source.bytes l.fn.source;
}
