-- The codes are those that were read, and those of the bytes that are left.
use Rattle.std.proofs.Common.{◌≡◌, ◌-◌, length}
use Rattle.pe_unwind.specs.UnwindErrors.{behind}
use Rattle.pe_unwind.specs.UnwindCodes.{codes_up_to, unwind_codes}
use Rattle.pe_unwind.proofs.unwind_codes.unwind_codes.Given as goal

abbrev pub invariant-loop : goal.invariant-loop
invariant-loop l = unwind_codes l.version l.bytes
    ≡ behind l.codes.items (codes_up_to (length l.bytes - l.counter) l.version l.rest)
