-- All pairs are those that were appended, and those that are left.
use Rattle.std.proofs.Common.{◌≡◌, ◌++◌, ◌-◌}
use Rattle.std.specs.Prelude.{replicate}
use Rattle.pe_unwind_arm64.specs.declared.unwind_codes.Operation.TheVariants.{SaveFloats}
use Rattle.pe_unwind_arm64.proofs.canonical.push_floats.Given as goal

abbrev pub invariant-loop : goal.invariant-loop
invariant-loop l = l.initial.operations.items ++ replicate l.count SaveFloats
    ≡ l.operations.items ++ replicate (l.count - l.counter) SaveFloats
