-- The flags so far are set of marked types alone, and of forward references only where these go by one of the names.
use Rattle.std.proofs.Common.{◌≡◌, ℕ, List, Some, true, length, slice_get}
use Rattle.pdb_msf.specs.StreamBlocks.{said_in}
use Rattle.pdb_tpi.specs.RecordWindows.{Shows, records_in}
use Rattle.pdb_tpi.specs.TypePlaces.{LieIn, list_at}
use Rattle.pdb_session.specs.Definitions.{AreNamed}
use Rattle.pdb_session.proofs.definitions.settled_sizes.Given as goal

abbrev pub invariant-loop-position : goal.invariant-loop-position
invariant-loop-position g l = record {
  length : length l.kept.items ≡ l.position;
  marked : (at : ℕ) → slice_get l.kept.items at ≡ Some true → slice_get l.marks at ≡ Some true;
  named : (stream : List ℕ) → said_in (g.S.Source.bytes l.fn.source) l.places.records.blocks ≡ Some stream
      → LieIn l.places stream → AreNamed l.names (list_at l.places stream) l.kept.items;
  shows : (stream : List ℕ) → said_in (g.S.Source.bytes l.fn.source) l.places.records.blocks ≡ Some stream
      → Shows (records_in l.places.records stream) l.window;
  refusals : g.S.Source.refuses_from l.source ≡ g.S.Source.refuses_from l.fn.source;
  inputs : g.S.Source.bytes l.source ≡ g.S.Source.bytes l.fn.source;
}
