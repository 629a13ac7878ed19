-- The starts are those that were read and those of the records that are left.
use Rattle.std.proofs.Common.{◌≡◌, ℕ, List, Some, length}
use Rattle.pdb_msf.specs.StreamBlocks.{said_in}
use Rattle.pdb_tpi.proofs.TypePlaceLemmas.{Scanned}
use Rattle.pdb_tpi.specs.RecordWindows.{Shows, records_in}
use Rattle.pdb_tpi.proofs.type_places.read_starts.Given as goal

abbrev pub invariant-loop : goal.invariant-loop
invariant-loop g l = record {
  answer : (stream : List ℕ) → said_in (g.S.Source.bytes l.fn.source) l.records.blocks ≡ Some stream
      → length (records_in l.records stream) ≡ l.records.length
      → Scanned (records_in l.records stream) l.counter l.place l.starts.items;
  shows : (stream : List ℕ) → said_in (g.S.Source.bytes l.fn.source) l.records.blocks ≡ Some stream
      → Shows (records_in l.records stream) l.window;
  refusals : g.S.Source.refuses_from l.source ≡ g.S.Source.refuses_from l.fn.source;
  inputs : g.S.Source.bytes l.source ≡ g.S.Source.bytes l.fn.source;
}
