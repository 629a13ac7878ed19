-- What the code says is what it says by the bytes that are left, after the codes that were passed.
use Rattle.std.proofs.Common.{◌≡◌, ◌≤◌, ◌+◌, ◌-◌}
use Rattle.pe_unwind_arm64.specs.UnwindCodes.{next_operation, next_up_to}
use Rattle.pe_unwind_arm64.proofs.unwind_codes.next_operation.Given as goal

abbrev pub invariant-loop : goal.invariant-loop
invariant-loop l = record {
  same : next_operation l.bytes ≡ next_up_to (4 - l.counter) l.count l.rest;
  few : l.count ≤ l.counter + 1;
}
