-- The codes are those that were read, and those of the bytes that are left.
use Rattle.std.proofs.Common.{◌≡◌, ◌≤◌, ◌++◌, ◌-◌, length}
use Rattle.pe_unwind_arm64.specs.UnwindCodes.{codes_in, codes_up_to}
use Rattle.pe_unwind_arm64.proofs.unwind_codes.codes_in.Given as goal

abbrev pub invariant-loop : goal.invariant-loop
invariant-loop l = record {
  same : codes_in l.bytes
      ≡ l.codes.items ++ codes_up_to (length l.bytes - l.counter) (length l.bytes) l.rest;
  shorter : length l.rest ≤ length l.bytes;
}
