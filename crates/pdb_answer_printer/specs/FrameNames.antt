-- The printed parts of a frame: the names of the function and of the file, and the line; and which frames are printed.
use Rattle.std.specs.Prelude.{ℕ, ◌-◌, List, [], length, take, drop, if◌then◌else◌}
use Rattle.std.specs.Prelude.{Option, None, Some, option_map, unwrap_or}
use Rattle.pdb_frames.specs.Frame.{FrameInfo, FramesInfo}
use Rattle.pdb_frames.specs.SourceFiles.{known_text}
use Rattle.pdb_answer_printer.specs.BaseNames.{base_name}
use Rattle.pdb_answer_printer.specs.declared.printer_options.PrinterOptions.{PrinterOptions}
use Rattle.pdb_answer_printer.specs.declared.printer_options.Style.{Style}
use Rattle.pdb_answer_printer.specs.declared.printer_options.Style.TheVariants.{Gnu}

-- the name of a file as it is printed: without its folders if the options ask for that
abbrev pub shown_file : PrinterOptions → List ℕ → List ℕ
shown_file options file = if options.basenames then base_name file else file

-- the name of a frame's function, or this text if it isn't known
abbrev pub function_of : List ℕ → FrameInfo → List ℕ
function_of unknown frame = unwrap_or frame.function unknown

-- the printed name of a frame's file, or this text if the file isn't known
abbrev pub file_of : PrinterOptions → List ℕ → FrameInfo → List ℕ
file_of options unknown frame = unwrap_or (option_map (shown_file options) (known_text frame.file)) unknown

-- the line of a frame: 0 if it isn't known
abbrev pub line_of : FrameInfo → ℕ
line_of frame = unwrap_or frame.line 0

-- the frame that is printed if inlined functions aren't: the innermost one in GNU's style, otherwise the function
-- itself
abbrev pub own_frame : Style → List FrameInfo → List FrameInfo
own_frame Gnu frames = take 1 frames
own_frame style frames = drop (length frames - 1) frames

-- the frames that are printed of those that were found
abbrev pub shown_frames : PrinterOptions → Option FramesInfo → List FrameInfo
shown_frames options None = []
shown_frames options (Some found) = if options.inlines then found.frames else own_frame options.style found.frames
