-- The runs between all entries are those that were appended, and those between the entries that are left.
use Rattle.std.proofs.Common.{◌≡◌, ◌++◌, drop}
use Rattle.pe_unwind.specs.LeafCode.{uncovered}
use Rattle.pe_unwind.proofs.leaf_code.push_uncovered.Given as goal

abbrev pub invariant-loop-entry : goal.invariant-loop-entry
invariant-loop-entry l = l.fn.runs.items ++ uncovered l.from l.to l.entries
    ≡ l.runs.items ++ uncovered l.start l.to (drop l.entry-index l.entries)
