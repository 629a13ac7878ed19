-- The epilogues are those that were read, and those of the scopes that are left.
use Rattle.std.proofs.Common.{◌≡◌, ◌-◌}
use Rattle.pe_unwind_arm64.specs.UnwindErrors.{behind}
use Rattle.pe_unwind_arm64.specs.UnwindInfo.{scopes_in, scopes_up_to}
use Rattle.pe_unwind_arm64.proofs.unwind_info.scopes_in.Given as goal

abbrev pub invariant-loop : goal.invariant-loop
invariant-loop l = scopes_in l.count l.length l.codes l.bytes
    ≡ behind l.read.items (scopes_up_to (l.count - l.counter) l.length l.codes l.reach l.rest)
