-- With the records of the entries that are left, the records are those of all entries.
use Rattle.std.proofs.Common.{◌≡◌, drop}
use Rattle.pdb_frame_data.specs.StackWin.{with_fpo}
use Rattle.pdb_frame_data.proofs.stack_win.with_fpo.Given as goal

abbrev pub invariant-loop-entry : goal.invariant-loop-entry
invariant-loop-entry l = with_fpo l.entries l.fn.records ≡ with_fpo (drop l.entry-index l.entries) l.records
