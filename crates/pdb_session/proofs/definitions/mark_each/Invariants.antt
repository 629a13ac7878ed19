-- Up to the position, what defines one of the names is marked.
use Rattle.std.proofs.Common.{◌≡◌, ℕ, List, Some, length}
use Rattle.pdb_msf.specs.StreamBlocks.{said_in}
use Rattle.pdb_tpi.specs.RecordWindows.{Shows, records_in}
use Rattle.pdb_tpi.specs.TypePlaces.{LieIn, list_at}
use Rattle.pdb_session.proofs.DefinitionLemmas.{MarkedBelow}
use Rattle.pdb_session.proofs.definitions.mark_each.Given as goal

abbrev pub invariant-loop-position : goal.invariant-loop-position
invariant-loop-position g l = record {
  marked : (stream : List ℕ) → said_in (g.S.Source.bytes l.fn.source) l.places.records.blocks ≡ Some stream
      → LieIn l.places stream → MarkedBelow l.names (list_at l.places stream) l.position l.marks;
  length : length l.marks ≡ length l.fn.marks;
  shows : (stream : List ℕ) → said_in (g.S.Source.bytes l.fn.source) l.places.records.blocks ≡ Some stream
      → Shows (records_in l.places.records stream) l.window;
  refusals : g.S.Source.refuses_from l.source ≡ g.S.Source.refuses_from l.fn.source;
  inputs : g.S.Source.bytes l.source ≡ g.S.Source.bytes l.fn.source;
}
