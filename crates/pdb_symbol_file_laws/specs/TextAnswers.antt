-- What a reader of a symbol file's text finds, compared with the source's answers.
use Rattle.std.specs.Prelude.{ℕ, ◌≡◌, ◌≤◌, ◌<◌, ◌^◌, ◌⊎◌, List, [], ◌∷◌, map, Bool, true, false, not, nat_lt}
use Rattle.std.specs.Prelude.{Option, Some, None, option_map}
use Rattle.std.specs.Io.KnownBytes.{Appends}
use Rattle.pdb_frames.specs.Frame.{FramesInfo}
use Rattle.pdb_breakpad.specs.RecordTypes.{FunctionRecords}
use Rattle.pdb_breakpad.specs.FunctionWalk.{turned}
use Rattle.pdb_breakpad.specs.ShownFrames.{ShownFrame, ShownPlace, answer_shown}
use Rattle.pdb_symbol_file_laws.specs.RecordReader.{shown_by_text}
use Rattle.pdb_symbol_file_laws.specs.SymbolFileRecords.{on_one_line}

-- a place with its file's name on one line
abbrev pub place_on_one_line : ShownPlace → ShownPlace
place_on_one_line place = record { file = on_one_line place.file; line = place.line }

-- a frame with its names on one line
abbrev pub frame_on_one_line : ShownFrame → ShownFrame
frame_on_one_line frame =
    record { function = on_one_line frame.function; place = option_map place_on_one_line frame.place }

-- whether the first of these functions begins at or before an address
abbrev pub begins_by : ℕ → List FunctionRecords → Bool
begins_by address [] = false
begins_by address (records ∷ functions) = not (nat_lt address records.start)

-- the last function that begins at or before an address, if there is one, has a known end
abbrev pub NoneOpen : ℕ → List FunctionRecords → Type 0
NoneOpen address [] = Unit {0}
NoneOpen address (records ∷ functions) =
    (records.found.end_rva ≡ None → records.start ≤ address → begins_by address functions ≡ true)
    × NoneOpen address functions

-- a reader of a text finds at an address what the source answers there, with names on one line. It finds nothing if the
-- source answers nothing, except if the last function before the address has an unknown end
abbrev pub TextShows : {S : Type 0} → (S → ℕ → Option FramesInfo → Type 0) → S → List FunctionRecords → List ℕ
    → ℕ → Type 0
TextShows answers source functions text address =
    ((answer : FramesInfo) × (answers source address (Some answer)
    × (shown_by_text text address ≡ Some (map frame_on_one_line (answer_shown (turned answer))))))
    ⊎ (answers source address None × (NoneOpen address functions → shown_by_text text address ≡ None))

-- the appended text shows a reader, at each 32-bit address, what the source answers there
pub record AppendsAnswers {S : Type 0} (answers : S → ℕ → Option FramesInfo → Type 0) (source : S)
    (old new : Option (List ℕ)) : Type 0 where
  pub text : List ℕ
  pub functions : List FunctionRecords
  pub appended : Appends old new text
  pub shows : (address : ℕ) → address < 2 ^ 32 → TextShows answers source functions text address
