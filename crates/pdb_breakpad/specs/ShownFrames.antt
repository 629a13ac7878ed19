-- What a reader of a symbol file finds at an address.
use Rattle.std.specs.Prelude.{ℕ, List, [], ◌∷◌, map, Option, Some, None, option_and_then, slice_get, length, ◌-◌}
use Rattle.std.specs.Option.{unwrap_or}
use Rattle.pdb_frames.specs.Frame.{FrameInfo, FramesInfo}
use Rattle.pdb_breakpad.specs.ShownNames.{FrameText, frame_text, function_text, no_file}

-- a place in a source file
pub record ShownPlace : Type 0 where
  pub file : List ℕ
  pub line : ℕ

-- a function whose code contains an address, and the place that the code comes from, if it is known
pub record ShownFrame : Type 0 where
  pub function : List ℕ
  pub place : Option ShownPlace

-- the place of a frame; an unknown file is two question marks, and an unknown line is 0
abbrev pub place_of : FrameText → ShownPlace
place_of frame = record { file = unwrap_or frame.file no_file; line = unwrap_or frame.line 0 }

-- a place if its file or its line is known
abbrev pub place_if_known : Option (List ℕ) → Option ℕ → ShownPlace → Option ShownPlace
place_if_known None None place = None
place_if_known (Some file) line place = Some place
place_if_known None (Some line) place = Some place

-- the place of the innermost frame: there is none if neither its file nor its line is known
abbrev pub own_place : FrameText → Option ShownPlace
own_place frame = place_if_known frame.file frame.line (place_of frame)

-- an inlined call: its place, and the function that is called
pub record ShownCall : Type 0 where
  pub place : ShownPlace
  pub function : List ℕ

-- the calls of these frames, from outside to inside; the first is inlined into `outer`, and each other one into the one
-- before it
abbrev pub calls_between : FrameText → List FrameText → List ShownCall
calls_between outer [] = []
calls_between outer (inner ∷ frames) =
    record { place = place_of outer; function = inner.function } ∷ calls_between inner frames

-- the calls of frames from outside to inside, each inlined into the one before it
abbrev pub calls_in : List FrameText → List ShownCall
calls_in [] = []
calls_in (frame ∷ frames) = calls_between frame frames

-- the place of the innermost of these frames
abbrev pub innermost_place : List FrameText → Option ShownPlace
innermost_place frames = option_and_then own_place (slice_get frames (length frames - 1))

-- the shown frames, from outside to inside. A frame with an inlined call has a place even if nothing is known of it,
-- since the record of the call has one. A function without frames is shown without a name
abbrev pub stack_shown : List FrameText → List ShownFrame
stack_shown [] = record { function = []; place = None } ∷ []
stack_shown (frame ∷ []) = record { function = frame.function; place = own_place frame } ∷ []
stack_shown (frame ∷ inner ∷ frames) =
    record { function = frame.function; place = Some (place_of frame) } ∷ stack_shown (inner ∷ frames)

-- the name of the function itself, by its frames from outside to inside
abbrev pub own_name : List FrameInfo → List ℕ
own_name [] = []
own_name (frame ∷ frames) = function_text frame

-- the shown frames of a function with this end
abbrev pub shown_up_to : Option ℕ → List FrameInfo → List ShownFrame
shown_up_to None frames = record { function = own_name frames; place = None } ∷ []
shown_up_to (Some end) frames = stack_shown (map frame_text frames)

-- the shown frames of an answer, whose frames are from outside to inside; of a function with an unknown end only the
-- name
abbrev pub answer_shown : FramesInfo → List ShownFrame
answer_shown answer = shown_up_to answer.end_rva answer.frames

-- the frames that a reader finds, from outside to inside, by the name of a function, the inlined calls at an address
-- and the place of its code. A call's place is that of the frame around it
abbrev pub stack_read : List ℕ → List ShownCall → Option ShownPlace → List ShownFrame
stack_read name [] place = record { function = name; place = place } ∷ []
stack_read name (call ∷ calls) place =
    record { function = name; place = Some call.place } ∷ stack_read call.function calls place
