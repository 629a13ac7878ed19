-- The answer to a question for frames or for a function, in the form for C.
use Rattle.std.specs.Prelude.{ℕ, List, [], ◌∷◌, ◌++◌, Option, Some, None, length, drop, nat_le, Bool, true, false, ◌&&◌}
use Rattle.std.specs.Prelude.{unwrap_or}
use Rattle.std.specs.Option.{option_map_or}
use Rattle.pdb_frames.specs.Frame.{FramesInfo}
use Rattle.pdb_function_info.specs.Function.{FunctionInfo}
use Rattle.pdb_c.specs.declared.frame_rows.FrameRow.{FrameRow}
use Rattle.pdb_c.specs.declared.found_frames.AnswerSizes.{AnswerSizes}
use Rattle.pdb_c.specs.declared.found_frames.FoundFrames.{FoundFrames}
use Rattle.pdb_c.specs.FrameRows.{rows_of, texts_of}

-- the form of a function for C: its addresses, a row for each frame, and the texts of the rows
pub record Shown : Type 0 where
  pub start : ℕ
  pub end : Option ℕ
  pub rows : List FrameRow
  pub texts : List ℕ

-- the form of the frames at an address; empty if there is no function
abbrev pub shown : Option FramesInfo → Shown
shown None = record { start = 0; end = None; rows = []; texts = [] }
shown (Some found) = record {
  start = found.start_rva;
  end = found.end_rva;
  rows = rows_of 0 found.frames;
  texts = texts_of found.frames;
}

-- the model of `FoundFrames`
abbrev pub shown_view : FoundFrames → Shown
shown_view found = record {
  start = found.start;
  end = found.end;
  rows = found.rows.items;
  texts = found.texts.items;
}

-- the form of a report's text, without function and rows
abbrev pub shown_text : List ℕ → Shown
shown_text text = record { start = 0; end = None; rows = []; texts = text }

-- 1 for a flag that is set, and else 0
abbrev pub flag_number : Bool → ℕ
flag_number true = 1
flag_number false = 0

-- a flag in the form for C: a number in place of an address, with no function and no rows
abbrev pub shown_flag : Bool → Shown
shown_flag flag = record { start = flag_number flag; end = None; rows = []; texts = [] }

-- a function as its only frame, with no file and no line
abbrev pub frames_of_function : FunctionInfo → FramesInfo
frames_of_function f = record {
  start_rva = f.start_rva;
  end_rva = f.end_rva;
  frames = record { function = f.name; file = None; line = None } ∷ [];
}

-- a function of which only the start is known
abbrev pub start_alone : ℕ → FunctionInfo
start_alone start = record { start_rva = start; end_rva = None; name = None }

-- a list with other items at its start; its later elements stay
abbrev pub put_at_start : {A : Type 0} → List A → List A → List A
put_at_start items room = items ++ drop (length items) room

-- whether the rows and the texts fit into buffers
abbrev pub fits : {A : Type 0} → Shown → List A → List ℕ → Bool
fits found rows texts =
    nat_le (length found.rows) (length rows) && nat_le (length found.texts) (length texts)

-- the size of an answer, and the addresses of its function. A flag tells whether the function's end is known
abbrev pub sizes : Shown → AnswerSizes
sizes found = record {
  rows = length found.rows;
  texts = length found.texts;
  start = found.start;
  end = unwrap_or found.end 0;
  end_known = option_map_or (λ end. 1) found.end 0;
}
