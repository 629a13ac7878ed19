-- The records so far, and those of the spans that are left, are all that were to be added.
use Rattle.std.proofs.Common.{◌≡◌, ◌++◌, drop, map}
use Rattle.pdb_breakpad.proofs.inline_records.push_level_records.Given as goal

abbrev pub invariant-loop-span : goal.invariant-loop-span
invariant-loop-span l =
    l.records.items ++ map (λ span. record { level = l.level; span = span }) (drop l.span-index l.span-items)
    ≡ l.initial.records.items ++ map (λ span. record { level = l.level; span = span }) l.span-items
