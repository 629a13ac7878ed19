-- The records of all runs are those that were appended, and those of the runs that are left.
use Rattle.std.proofs.Common.{◌≡◌, ◌++◌, drop}
use Rattle.std.specs.List.{flat_map}
use Rattle.std.specs.Prelude.{string_bytes}
use Rattle.pe_unwind.specs.LeafCode.{run_text}
use Rattle.pe_unwind.proofs.leaf_code.push_run_records.Given as goal

abbrev pub invariant-loop-run : goal.invariant-loop-run
invariant-loop-run l = string_bytes l.initial.text ++ flat_map run_text l.runs
    ≡ string_bytes l.text ++ flat_map run_text (drop l.run-index l.runs)
