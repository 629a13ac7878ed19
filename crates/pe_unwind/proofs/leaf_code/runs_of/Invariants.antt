-- The runs of all sections are those that were appended, and those of the sections that are left.
use Rattle.std.proofs.Common.{◌≡◌, ◌++◌, drop}
use Rattle.pe_unwind.specs.LeafCode.{runs_of}
use Rattle.pe_unwind.proofs.leaf_code.runs_of.Given as goal

abbrev pub invariant-loop-section : goal.invariant-loop-section
invariant-loop-section l =
    runs_of l.entries 0 l.sections ≡ l.runs.items ++ runs_of l.entries l.reach (drop l.section-index l.sections)
