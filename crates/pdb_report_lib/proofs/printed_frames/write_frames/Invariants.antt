use Rattle.std.proofs.Common.{◌≡◌, ◌++◌, drop, string_bytes}
use Rattle.pdb_report_lib.specs.PrintedFrames.{frame_lines}
use Rattle.pdb_report_lib.proofs.printed_frames.write_frames.Given as goal

-- what is written, and the lines of the frames that are left, are all that was to be written
abbrev pub invariant-loop-frame : goal.invariant-loop-frame
invariant-loop-frame l =
    string_bytes l.text ++ frame_lines (drop l.frame-index l.frames)
    ≡ string_bytes l.initial.text ++ frame_lines l.frames
