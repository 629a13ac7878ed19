-- A symbol file says the same of the frames so far.
use Rattle.std.proofs.Common.{◌≡◌, ℕ, ◌<◌, get_or}
use Rattle.pdb_frames.specs.Frame.{FrameInfo}
use Rattle.pdb_breakpad.specs.ShownNames.{frame_text}
use Rattle.pdb_breakpad.proofs.shown_names.are_equal.Given as goal

abbrev pub invariant-loop-position : goal.invariant-loop-position
invariant-loop-position l = (position : ℕ) (d : FrameInfo) → position < l.position
    → frame_text (get_or l.frames position d) ≡ frame_text (get_or l.others position d)
