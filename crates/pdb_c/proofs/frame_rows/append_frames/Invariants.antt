use Rattle.std.proofs.Common.{◌≡◌, ◌++◌, drop, length}
use Rattle.pdb_c.specs.FrameRows.{rows_of, texts_of}
use Rattle.pdb_c.proofs.frame_rows.append_frames.Given as goal

-- what is there, and the rows and the texts of the frames that are left, are all that was to be made
abbrev pub invariant-loop-frame : goal.invariant-loop-frame
invariant-loop-frame l = record {
  rows : l.rows.items ++ rows_of (length l.texts.items) (drop l.frame-index l.frames)
      ≡ l.initial.rows.items ++ rows_of (length l.initial.texts.items) l.frames;
  texts : l.texts.items ++ texts_of (drop l.frame-index l.frames)
      ≡ l.initial.texts.items ++ texts_of l.frames;
}
