-- The items are those that were read and those that are left.
use Rattle.std.proofs.Common.{◌≡◌, ◌-◌, length}
use Rattle.pdb_msf.specs.ItemLists.{all_items, items_up_to}
use Rattle.pdb_msf.specs.Readings.{behind}
use Rattle.pdb_msf.proofs.item_lists.push_items.Given as goal

abbrev pub invariant-loop : goal.invariant-loop
invariant-loop g l = behind l.initial.items.items (all_items (g.R.ItemReader.first l.reader) l.bytes)
    ≡ behind l.items.items (items_up_to (g.R.ItemReader.first l.reader) (length l.bytes - l.counter) l.rest)
