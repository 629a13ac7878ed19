use Rattle.std.proofs.Common.{◌≡◌, ◌++◌, drop, map, take}
use Rattle.std.specs.Option.{option_or}
use Rattle.pdb_repairs.specs.Repaired.{first_fault, repaired_entry}
use Rattle.pdb_repairs.proofs.module_repairs.repair_entries.Given as goal

-- the entries so far are repaired, and the first fault so far, or else of what is left, is that of all
abbrev pub invariant-loop-entry : goal.invariant-loop-entry
invariant-loop-entry l =
    (take l.entry-index l.entry-items ++ map repaired_entry (drop l.entry-index l.entry-items)
    ≡ map repaired_entry l.fn.program.entries)
    × (option_or l.first (first_fault (drop l.entry-index l.entry-items)) ≡ first_fault l.fn.program.entries)
