-- All bytes are printed exactly if those that are left are.
use Rattle.std.proofs.Common.{◌≡◌, drop}
use Rattle.std.specs.List.{list_all}
use Rattle.pdb_frame_data.specs.StackWin.{is_printed}
use Rattle.pdb_frame_data.proofs.stack_win.is_line.Given as goal

abbrev pub invariant-loop-byte : goal.invariant-loop-byte
invariant-loop-byte l = list_all is_printed l.bytes ≡ list_all is_printed (drop l.byte-index l.bytes)
