-- The runs that are no padding are those that were kept, and those of the runs that are left.
use Rattle.std.proofs.Common.{◌≡◌, ◌++◌, drop}
use Rattle.std.specs.Prelude.{filter, not}
use Rattle.pe_unwind.specs.LeafCode.{is_padding}
use Rattle.pe_unwind.proofs.leaf_code.without_padding.Given as goal

abbrev pub invariant-loop-run : goal.invariant-loop-run
invariant-loop-run l =
    filter (λ run. not (is_padding l.image run)) l.runs
    ≡ l.kept.items ++ filter (λ run. not (is_padding l.image run)) (drop l.run-index l.runs)
