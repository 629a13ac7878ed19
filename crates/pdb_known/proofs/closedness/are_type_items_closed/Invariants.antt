-- All types are closed exactly if those are that are left.
use Rattle.std.proofs.Common.{◌≡◌, drop}
use Rattle.std.specs.List.{list_all}
use Rattle.pdb_known.specs.Known.{is_type_item_closed}
use Rattle.pdb_known.proofs.closedness.are_type_items_closed.Given as goal

abbrev pub invariant-loop-item : goal.invariant-loop-item
invariant-loop-item l =
    list_all (is_type_item_closed l.known) l.items
    ≡ list_all (is_type_item_closed l.known) (drop l.item-index l.items)
