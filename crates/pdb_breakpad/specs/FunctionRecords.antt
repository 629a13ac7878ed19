-- What a reader finds in the records of a function.
use Rattle.std.specs.Prelude.{ℕ, ◌≡◌, ◌+◌, List, map, Option}
use Rattle.pdb_frames.specs.Frame.{FramesInfo}
use Rattle.pdb_breakpad.specs.declared.function_records.FunctionRecords.{FunctionRecords}
use Rattle.pdb_breakpad.specs.declared.record_numbers.Numbers.{Numbers}
use Rattle.pdb_breakpad.specs.AddressSpans.{EndBefore, content_at}
use Rattle.pdb_breakpad.specs.ShownNames.{frame_text}
use Rattle.pdb_breakpad.specs.InlineRecords.{LevelEndsBefore, calls_at}
use Rattle.pdb_breakpad.specs.NumberedCode.{AreCalls, IsCode, IsOptionalPlace}
use Rattle.pdb_breakpad.specs.ShownFrames.{ShownCall, ShownFrame, ShownPlace, own_name, stack_read}

-- a reader of a function's records finds these frames at an address: by the function's name, the inlined calls at the
-- address level by level, and the line there, with names by their numbers
abbrev pub Reads : Numbers → FunctionRecords → ℕ → List ShownFrame → Type 0
Reads numbers records address shown = (calls : List ShownCall) × ((place : Option ShownPlace)
    × (AreCalls numbers (calls_at address records.inlines) calls
    × (IsOptionalPlace numbers (content_at address records.lines) place
    × (stack_read (own_name records.found.frames) calls place ≡ shown))))

-- an answer is of the same function as another one: they have the same start, end and name
abbrev pub IsOf : FramesInfo → FramesInfo → Type 0
IsOf known found = (known.start_rva ≡ found.start_rva) × ((known.end_rva ≡ found.end_rva)
    × (own_name known.frames ≡ own_name found.frames))

-- no record of a function reaches past its last address
abbrev pub InOrder : FunctionRecords → Type 0
InOrder records = ((level : ℕ) → LevelEndsBefore (records.last + 1) records.inlines level)
    × EndBefore (records.last + 1) records.lines

-- the numbered frames of the code at the last address are those of the answer there
abbrev pub IsNumbered : Numbers → FunctionRecords → Type 0
IsNumbered numbers records = IsCode numbers records.code (map frame_text records.found.frames)
