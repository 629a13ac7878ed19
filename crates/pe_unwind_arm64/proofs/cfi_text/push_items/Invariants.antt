-- The texts of all items are those that were appended, and those of the items that are left.
use Rattle.std.proofs.Common.{◌≡◌, ◌++◌, drop}
use Rattle.std.specs.List.{flat_map}
use Rattle.std.specs.Prelude.{string_bytes}
use Rattle.pe_unwind_arm64.specs.CfiText.{item_text}
use Rattle.pe_unwind_arm64.proofs.cfi_text.push_items.Given as goal

abbrev pub invariant-loop-item : goal.invariant-loop-item
invariant-loop-item l = string_bytes l.initial.text ++ flat_map item_text l.items
    ≡ string_bytes l.text ++ flat_map item_text (drop l.item-index l.items)
