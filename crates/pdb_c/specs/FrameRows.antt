-- Frames as data: one row for each, and the texts of the rows.
use Rattle.std.specs.Prelude.{ℕ, ◌+◌, List, [], ◌∷◌, ◌++◌, Option, Some, None, length, unwrap_or}
use Rattle.pdb_frames.specs.Frame.{FrameInfo}
use Rattle.pdb_frames.specs.SourceFiles.{known_text}
use Rattle.pdb_c.specs.declared.frame_rows.TextPlace.{TextPlace}
use Rattle.pdb_c.specs.declared.frame_rows.FrameRow.{FrameRow}

-- the range of a text that starts at this offset
abbrev pub known_place : ℕ → List ℕ → TextPlace
known_place start text = record { start = start; length = length text }

-- the range of a text that starts at this offset; the greatest 64-bit number if the text isn't known
abbrev pub place_at : ℕ → Option (List ℕ) → TextPlace
place_at start (Some text) = known_place start text
place_at start None = record { start = 18446744073709551615; length = 0 }

-- a zero-terminated text
abbrev pub ended : List ℕ → List ℕ
ended text = text ++ (0 ∷ [])

-- a zero-terminated text; no bytes if the text isn't known
abbrev pub ended_or_none : Option (List ℕ) → List ℕ
ended_or_none (Some text) = ended text
ended_or_none None = []

-- the texts of a frame: that of its function, then that of its file
abbrev pub frame_texts : FrameInfo → List ℕ
frame_texts frame = ended_or_none frame.function ++ ended_or_none (known_text frame.file)

-- the row of a frame whose texts start at this offset
abbrev pub row_at : ℕ → FrameInfo → FrameRow
row_at start frame = record {
  function = place_at start frame.function;
  file = place_at (start + length (ended_or_none frame.function)) (known_text frame.file);
  line = unwrap_or frame.line 0;
}

-- the texts of frames in order
abbrev pub texts_of : List FrameInfo → List ℕ
texts_of [] = []
texts_of (frame ∷ frames) = frame_texts frame ++ texts_of frames

-- the rows of frames, one for each; the texts of the first start at this offset
abbrev pub rows_of : ℕ → List FrameInfo → List FrameRow
rows_of start [] = []
rows_of start (frame ∷ frames) = row_at start frame ∷ rows_of (start + length (frame_texts frame)) frames
