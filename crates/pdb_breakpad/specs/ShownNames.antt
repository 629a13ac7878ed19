-- The texts of a frame in a symbol file.
use Rattle.std.specs.Prelude.{ℕ, List, [], ◌∷◌, codes, Option, option_map}
use Rattle.std.specs.Option.{option_map_or}
use Rattle.pdb_frames.specs.Frame.{FrameInfo}
use Rattle.pdb_frames.specs.SourceFiles.{known_text}

-- the texts of a frame: the function's name, and the file and the line, as far as they are known
pub record FrameText : Type 0 where
  pub function : List ℕ
  pub file : Option (List ℕ)
  pub line : Option ℕ

-- a name, or another one if it is empty
abbrev pub text_or : List ℕ → List ℕ → List ℕ
text_or other [] = other
text_or other (character ∷ characters) = character ∷ characters

-- the name of a frame's function: `<name omitted>` if it has none
abbrev pub function_text : FrameInfo → List ℕ
function_text frame = option_map_or (text_or (codes "<name omitted>")) frame.function (codes "<name omitted>")

-- two question marks, which stand for a file that isn't known
abbrev pub no_file : List ℕ
no_file = 63 ∷ 63 ∷ []

-- the name of a frame's file: two question marks if it has none
abbrev pub file_text : FrameInfo → List ℕ
file_text frame = option_map_or (text_or no_file) (known_text frame.file) no_file

-- the texts of a frame; an empty name or file counts as unknown
abbrev pub frame_text : FrameInfo → FrameText
frame_text frame = record {
  function = function_text frame;
  file = option_map (text_or no_file) (known_text frame.file);
  line = frame.line;
}
