-- The printed lines of frames.
use Rattle.std.specs.Prelude.{ℕ, List, [], ◌∷◌, ◌++◌, codes, Option, Some, None, length}
use Rattle.std.specs.Fmt.{decimal}
use Rattle.pdb_frames.specs.Frame.{FrameInfo, FramesInfo}
use Rattle.pdb_frames.specs.SourceFiles.{FileName}
use Rattle.pdb_report_lib.specs.PrintedLines.{hex, name_text, unknown}

-- the name of a file, if it is known
abbrev pub file_text : Option FileName → List ℕ
file_text None = unknown
file_text (Some name) = name.text

-- the number of a line in a file, if it is known
abbrev pub line_number_text : Option ℕ → List ℕ
line_number_text None = unknown
line_number_text (Some line) = decimal line

-- the line of a frame: the function, the file and the line in it
abbrev pub frame_line : FrameInfo → List ℕ
frame_line f =
    codes "     " ++ (name_text f.function ++ (codes " at " ++ (file_text f.file
    ++ (codes ":" ++ (line_number_text f.line ++ codes "\n")))))

-- the lines of frames, in order
abbrev pub frame_lines : List FrameInfo → List ℕ
frame_lines [] = []
frame_lines (frame ∷ frames) = frame_line frame ++ frame_lines frames

-- the line before the frames of an address, with their number
abbrev pub frames_heading : ℕ → ℕ → List ℕ
frames_heading address count =
    codes "0x" ++ (hex address ++ (codes " - " ++ (decimal count ++ codes " frames:\n")))

-- the lines of an address: its frames, or that there are none
abbrev pub frames_text : ℕ → Option FramesInfo → List ℕ
frames_text address (Some f) = frames_heading address (length f.frames) ++ frame_lines f.frames
frames_text address None = hex address ++ codes " - no frames found\n"
