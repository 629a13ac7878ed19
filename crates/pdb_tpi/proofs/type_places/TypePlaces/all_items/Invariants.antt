-- The items are those that were made and those of the records that are left.
use Rattle.std.proofs.Common.{◌≡◌, ◌++◌, ℕ, List, Some, drop}
use Rattle.pdb_msf.specs.StreamBlocks.{said_in}
use Rattle.pdb_tpi.specs.ItemStreams.{item_of, items_from}
use Rattle.pdb_tpi.specs.RecordWindows.{Shows, records_in}
use Rattle.pdb_tpi.specs.TypePlaces.{LieIn, list_at}
use Rattle.pdb_tpi.proofs.type_places.TypePlaces.all_items.Given as goal

abbrev pub invariant-loop-position : goal.invariant-loop-position
invariant-loop-position g l = record {
  answer : (stream : List ℕ) → said_in (g.S.Source.bytes l.fn.source) l.self.records.blocks ≡ Some stream
      → LieIn l.self stream
      → g.I.ItemIndex.meaning.first ++ items_from (item_of g.I.ItemIndex.meaning l.self.first) 0
      (list_at l.self stream).records
      ≡ l.items.items ++ items_from (item_of g.I.ItemIndex.meaning l.self.first) l.position
      (drop l.position (list_at l.self stream).records);
  shows : (stream : List ℕ) → said_in (g.S.Source.bytes l.fn.source) l.self.records.blocks ≡ Some stream
      → Shows (records_in l.self.records stream) l.window;
  refusals : g.S.Source.refuses_from l.source ≡ g.S.Source.refuses_from l.fn.source;
  inputs : g.S.Source.bytes l.source ≡ g.S.Source.bytes l.fn.source;
}
