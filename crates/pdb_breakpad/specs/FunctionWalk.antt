-- Compares what a reader finds in the records of functions with what the source answers.
use Rattle.std.specs.Prelude.{◌≡◌, ◌≤◌, ◌<◌, ◌+◌, ◌^◌, ℕ, List, [], ◌∷◌, Bool, not, nat_lt, ◌&&◌, find, reverse}
use Rattle.std.specs.Prelude.{Option, Some, None, IfSome, ◌⊎◌}
use Rattle.std.specs.Option.{option_to_list}
use Rattle.std.specs.List.{All, flat_map}
use Rattle.std.specs.Io.KnownBytes.{Appends}
use Rattle.pdb_frames.specs.Frame.{FramesInfo}
use Rattle.pdb_tables.specs.declared.segment.Segment.{Segment}
use Rattle.pdb_breakpad.specs.declared.function_records.FunctionRecords.{FunctionRecords}
use Rattle.pdb_breakpad.specs.declared.record_numbers.Numbers.{Numbers}
use Rattle.pdb_breakpad.specs.AddressSpans.{content_at}
use Rattle.pdb_breakpad.specs.FunctionRecords.{InOrder, IsNumbered, Reads}
use Rattle.pdb_breakpad.specs.FunctionTexts.{function_text}
use Rattle.pdb_breakpad.specs.InlineRecords.{calls_at}
use Rattle.pdb_breakpad.specs.ShownFrames.{answer_shown, own_name}
use Rattle.pdb_breakpad.specs.WrittenRecords.{AreReadable}

-- an answer with its frames in reverse order
abbrev pub turned : FramesInfo → FramesInfo
turned answer = record answer { frames = reverse answer.frames }

-- this is the source's answer at an address, with its frames from outside to inside
abbrev pub IsAnswer : {S : Type 0} → (S → ℕ → Option FramesInfo → Type 0) → S → ℕ → Option FramesInfo → Type 0
IsAnswer answers source address None = answers source address None
IsAnswer answers source address (Some found) = (answer : FramesInfo) × answers source address (Some answer)
    × (found ≡ turned answer)

-- a reader of a function's records finds at an address what the source answers there
abbrev pub Shows : {S : Type 0} → (S → ℕ → Option FramesInfo → Type 0) → S → Numbers → FunctionRecords → ℕ
    → Type 0
Shows answers source numbers records address = (answer : FramesInfo) × answers source address (Some answer)
    × Reads numbers records address (answer_shown (turned answer))

-- whether a function covers an address
abbrev pub is_over : ℕ → FunctionRecords → Bool
is_over address records = not (nat_lt address records.start) && not (nat_lt records.last address)

-- the first function of a list that covers an address
abbrev pub function_over : ℕ → List FunctionRecords → Option FunctionRecords
function_over address functions = find (is_over address) functions

-- a reader finds the source's answer at an address in the function that covers it; without a function, the source has
-- no answer
abbrev pub ShowsOver : {S : Type 0} → (S → ℕ → Option FramesInfo → Type 0) → S → Numbers → ℕ
    → Option FunctionRecords → Type 0
ShowsOver answers source numbers address None = answers source address None
ShowsOver answers source numbers address (Some records) = Shows answers source numbers records address

-- a reader of functions finds the source's answer at an address
abbrev pub IsRightAt : {S : Type 0} → (S → ℕ → Option FramesInfo → Type 0) → S → Numbers
    → List FunctionRecords → ℕ → Type 0
IsRightAt answers source numbers functions address =
    ShowsOver answers source numbers address (function_over address functions)

-- functions are sorted by address and don't overlap; they begin at or after `from`, and end before `to`
abbrev pub StandBetween : ℕ → ℕ → List FunctionRecords → Type 0
StandBetween from to [] = from ≤ to
StandBetween from to (records ∷ functions) =
    (from ≤ records.start) × ((records.start ≤ records.last) × StandBetween (records.last + 1) to functions)

-- the functions of a program: they are sorted by address and don't overlap, and at each 32-bit address a reader finds
-- the source's answer
pub record AreFunctions {S : Type 0} (answers : S → ℕ → Option FramesInfo → Type 0) (source : S) (numbers : Numbers)
    (functions : List FunctionRecords) : Type 0 where
  pub order : StandBetween 0 (2 ^ 32) functions
  pub right : (address : ℕ) → address < 2 ^ 32 → IsRightAt answers source numbers functions address

-- the records of a function before and after they grow to another last address; at the addresses before, a reader finds
-- the same
pub record GoesOn (before after : FunctionRecords) (last : ℕ) : Type 0 where
  pub start : after.start ≡ before.start
  pub ends : after.last ≡ last
  pub name : own_name before.found.frames ≡ own_name after.found.frames
  pub same : (address : ℕ) → address ≤ before.last
      → (calls_at address after.inlines ≡ calls_at address before.inlines)
      × (content_at address after.lines ≡ content_at address before.lines)

-- the records of a function that may still grow: they reach up to an address, and what comes after it can be added
pub record IsOpen (numbers : Numbers) (next : ℕ) (records : FunctionRecords) : Type 0 where
  pub some : records.start ≤ records.last
  pub follows : records.last + 1 ≡ next
  pub order : InOrder records
  pub numbered : IsNumbered numbers records

-- the start of the function that the walk is in, or else the next address
abbrev pub walk_start : Option FunctionRecords → ℕ → ℕ
walk_start None next = next
walk_start (Some records) next = records.start

-- the function of a piece begins and, so far, ends with the piece
abbrev pub Begins : ℕ → ℕ → Option FunctionRecords → Type 0
Begins first last None = Unit {0}
Begins first last (Some records) = (records.start ≡ first) × (records.last ≡ last)

-- the walk's function continues over a piece, and none ends
abbrev pub Continues : ℕ → Option FunctionRecords → Option FunctionRecords → List FunctionRecords → Type 0
Continues last (Some before) (Some after) [] = GoesOn before after last
Continues last walked next ended = ⊥

-- one step of a walk over a piece: its function continues; or it ends, and the function of the piece begins, if there
-- is one
abbrev pub IsNext : ℕ → ℕ → Option FunctionRecords → Option FunctionRecords → List FunctionRecords → Type 0
IsNext first last walked next ended =
    Continues last walked next ended ⊎ ((ended ≡ option_to_list walked) × Begins first last next)

-- a reader finds over a piece what the source answers at its first address
abbrev pub ReadsAnswer : {S : Type 0} → (S → ℕ → Option FramesInfo → Type 0) → S → Numbers → ℕ → ℕ
    → Option FunctionRecords → Type 0
ReadsAnswer answers source numbers first last None = answers source first None
ReadsAnswer answers source numbers first last (Some records) = (answer : FramesInfo)
    × answers source first (Some answer)
    × ((address : ℕ) → first ≤ address → address ≤ last
    → Reads numbers records address (answer_shown (turned answer)))

-- one step of a walk over a piece: its records show the source's answer, and the texts of functions that end are
-- written
pub record StepsOver {S : Type 0} (parameters : List (Segment ℕ)) (answers : S → ℕ → Option FramesInfo → Type 0)
    (source : S) (numbers : Numbers) (first last : ℕ) (walked next : Option FunctionRecords)
    (old new : Option (List ℕ)) : Type 0 where
  pub ended : List FunctionRecords
  pub is_next : IsNext first last walked next ended
  pub reads : ReadsAnswer answers source numbers first last next
  pub readable : All (AreReadable parameters) ended
  pub written : Appends old new (flat_map (function_text parameters) ended)

-- a walk has reached an address: the functions before the walk's current one show the source's answers, and their texts
-- are written
pub record IsWalked {S : Type 0} (parameters : List (Segment ℕ)) (answers : S → ℕ → Option FramesInfo → Type 0)
    (source : S) (numbers : Numbers) (next : ℕ) (walked : Option FunctionRecords)
    (old new : Option (List ℕ)) : Type 0 where
  pub functions : List FunctionRecords
  pub stand : StandBetween 0 (walk_start walked next) functions
  pub right : (address : ℕ) → address < walk_start walked next → IsRightAt answers source numbers functions address
  pub goes_on : IfSome walked (IsOpen numbers next)
  pub shows : IfSome walked (λ records. (address : ℕ) → records.start ≤ address → address ≤ records.last
      → Shows answers source numbers records address)
  pub readable : All (AreReadable parameters) functions
  pub written : Appends old new (flat_map (function_text parameters) functions)

-- all functions of a program are written, and show the source's answers
pub record WritesFunctions {S : Type 0} (parameters : List (Segment ℕ)) (answers : S → ℕ → Option FramesInfo → Type 0)
    (source : S) (numbers : Numbers) (old new : Option (List ℕ)) : Type 0 where
  pub functions : List FunctionRecords
  pub are : AreFunctions answers source numbers functions
  pub readable : All (AreReadable parameters) functions
  pub written : Appends old new (flat_map (function_text parameters) functions)
