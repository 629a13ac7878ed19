-- Whatever is written of the entries that are left, after what was written so far, is what is written of all.
use Rattle.std.proofs.Common.{drop}
use Rattle.pe_unwind_arm64.specs.ProgramRecords.{AddsAll, Written}
use Rattle.pe_unwind_arm64.proofs.program_records.add_entries.Given as goal

abbrev pub invariant-loop-entry : goal.invariant-loop-entry
invariant-loop-entry l = (written : Written)
    → AddsAll l.image l.reach (drop l.entry-index l.entries) l.records written
    → AddsAll l.image 0 l.entries l.fn.records written
