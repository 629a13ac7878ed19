-- The items of all registers are those that were appended, and those of the registers that are left.
use Rattle.std.proofs.Common.{◌≡◌, ◌++◌, drop, map}
use Rattle.pe_unwind_arm64.specs.CfiRecords.{found_by, register_items}
use Rattle.pe_unwind_arm64.proofs.cfi_records.push_registers.Given as goal

abbrev pub invariant-loop-position : goal.invariant-loop-position
invariant-loop-position l = l.initial.items.items
    ++ register_items 0 (map (found_by l.old_cfa) l.old) (map (found_by l.new_cfa) l.new)
    ≡ l.items.items ++ register_items l.position (map (found_by l.old_cfa) (drop l.position l.old))
    (map (found_by l.new_cfa) (drop l.position l.new))
