-- All marked items are those made so far and those of the records left; the window shows the records.
use Rattle.std.proofs.Common.{◌≡◌, ◌++◌, List, ℕ, Some, drop}
use Rattle.pdb_msf.specs.StreamBlocks.{said_in}
use Rattle.pdb_tpi.specs.ItemStreams.{item_of}
use Rattle.pdb_tpi.specs.RecordWindows.{Shows, records_in}
use Rattle.pdb_tpi.specs.TypePlaces.{LieIn, list_at}
use Rattle.pdb_session.specs.MarkedItems.{marked_from}
use Rattle.pdb_session.proofs.type_lists.marked_items.Given as goal

abbrev pub invariant-loop-position : goal.invariant-loop-position
invariant-loop-position g l = record {
  answer : (stream : List ℕ) → said_in (g.S.Source.bytes l.fn.source) l.places.records.blocks ≡ Some stream
      → LieIn l.places stream
      → g.I.ItemIndex.meaning.first ++ marked_from (item_of g.I.ItemIndex.meaning l.places.first) 0 l.marks
      (list_at l.places stream).records
      ≡ l.items.items ++ marked_from (item_of g.I.ItemIndex.meaning l.places.first) l.position
      (drop l.position l.marks) (drop l.position (list_at l.places stream).records);
  shows : (stream : List ℕ) → said_in (g.S.Source.bytes l.fn.source) l.places.records.blocks ≡ Some stream
      → Shows (records_in l.places.records stream) l.window;
  refusals : g.S.Source.refuses_from l.source ≡ g.S.Source.refuses_from l.fn.source;
  inputs : g.S.Source.bytes l.source ≡ g.S.Source.bytes l.fn.source;
}
