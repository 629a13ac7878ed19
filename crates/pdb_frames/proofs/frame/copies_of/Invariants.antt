use Rattle.std.proofs.Common.{◌≡◌, ◌++◌, drop}
use Rattle.pdb_frames.proofs.frame.copies_of.Given as goal

-- the copies so far, and what is left, are the list
abbrev pub invariant-loop-frame : goal.invariant-loop-frame
invariant-loop-frame l = l.copies.items ++ drop l.frame-index l.frames ≡ l.frames
