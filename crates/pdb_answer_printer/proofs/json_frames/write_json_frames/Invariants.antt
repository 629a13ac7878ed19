-- What is written, and the objects of the frames that are left, are all that was to be written.
use Rattle.std.proofs.Common.{◌≡◌, ◌++◌, drop, string_bytes}
use Rattle.std.specs.Str.{IsUtf8}
use Rattle.pdb_answer_printer.specs.JsonObjects.{json_frames}
use Rattle.pdb_answer_printer.proofs.json_frames.write_json_frames.Given as goal

abbrev pub invariant-loop-frame : goal.invariant-loop-frame
invariant-loop-frame l =
    (string_bytes l.out ++ json_frames l.options l.start (drop l.frame-index l.frames) l.later
    ≡ string_bytes l.initial.out ++ json_frames l.options l.initial.start l.frames l.sources)
    × IsUtf8 l.start
