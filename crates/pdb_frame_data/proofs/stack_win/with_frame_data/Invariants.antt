-- With the records of the entries that are left, the records are those of all entries.
use Rattle.std.proofs.Common.{◌≡◌, drop}
use Rattle.pdb_frame_data.specs.StackWin.{with_frame_data}
use Rattle.pdb_frame_data.proofs.stack_win.with_frame_data.Given as goal

abbrev pub invariant-loop-entry : goal.invariant-loop-entry
invariant-loop-entry l = with_frame_data l.strings l.entries l.fn.records
    ≡ with_frame_data l.strings (drop l.entry-index l.entries) l.records
