-- What is written, and the lines of the frames that are left, are all that was to be written.
use Rattle.std.proofs.Common.{◌≡◌, ◌++◌, drop, string_bytes}
use Rattle.std.specs.Str.{IsUtf8}
use Rattle.pdb_answer_printer.specs.AnswerLines.{frames_lines}
use Rattle.pdb_answer_printer.proofs.answer_lines.write_frames.Given as goal

abbrev pub invariant-loop-frame : goal.invariant-loop-frame
invariant-loop-frame l =
    (string_bytes l.out ++ frames_lines l.options l.start (drop l.frame-index l.frames) l.later
    ≡ string_bytes l.initial.out ++ frames_lines l.options l.initial.start l.frames l.sources)
    × IsUtf8 l.start
