-- What a reader is shown of functions, by where they lie.
use Rattle.std.proofs.Common.{◌≡◌, ◌∙◌, ℕ, ◌+◌, ◌≤◌, ◌<◌, true, false, List, [], ◌∷◌, ◌++◌, Option, Some, None}
use Rattle.std.proofs.Common.{refl, ap, arith}
use Rattle.std.specs.Option.{option_or}
use Rattle.std.proofs.lemmas.Grind.{common_steps}
use Rattle.std.proofs.lemmas.List.Folds.{find-append}
use Rattle.pdb_frames.specs.Frame.{FramesInfo}
use Rattle.pdb_breakpad.specs.declared.function_records.FunctionRecords.{FunctionRecords}
use Rattle.pdb_breakpad.specs.declared.record_numbers.Numbers.{Numbers}
use Rattle.pdb_breakpad.specs.FrameSource.{KeepsAnswers}
use Rattle.pdb_breakpad.specs.FunctionWalk.{Shows, ShowsOver, StandBetween, function_over, is_over, turned}
use Rattle.pdb_breakpad.specs.NumberedCode.{KeepsAllNames}
use Rattle.pdb_breakpad.specs.ShownFrames.{answer_shown}
use Rattle.pdb_breakpad.proofs.FunctionRecordLemmas.{still_reads}

-- a function that ends before an address isn't over it
past : (a : ℕ) (f : FunctionRecords) → f.last < a → is_over a f ≡ false
past a f before = grind (arith, common_steps)

-- a function that begins after an address isn't over it
ahead : (a : ℕ) (f : FunctionRecords) → a < f.start → is_over a f ≡ false
ahead a f before = grind (arith, common_steps)

-- a function is over the addresses from its start to its last
within : (a : ℕ) (f : FunctionRecords) → f.start ≤ a → a ≤ f.last → is_over a f ≡ true
within a f from to = grind (arith, common_steps)

-- where functions stand, there is room
stands : (from to : ℕ) (functions : List FunctionRecords) → StandBetween from to functions → from ≤ to
stands from to [] stand = stand
stands from to (f ∷ functions) stand =
    let rest : f.last + 1 ≤ to = stands (f.last + 1) to functions stand.1.1 in
    omega (arith, stand.0, stand.1.0, rest)

-- functions that end before an address are not over it
pub none_over : (a from to : ℕ) (functions : List FunctionRecords) → StandBetween from to functions → to ≤ a
    → function_over a functions ≡ None
none_over a from to [] stand below = refl
none_over a from to (f ∷ functions) stand below =
    let room : f.last + 1 ≤ to = stands (f.last + 1) to functions stand.1.1 in
    let first : is_over a f ≡ false = past a f (omega (arith, room, below)) in
    let others : function_over a functions ≡ None = none_over a (f.last + 1) to functions stand.1.1 below in
    grind (arith, common_steps, first, others)

-- functions that end before an address end before each later one
pub stand_up_to : (from to next : ℕ) (functions : List FunctionRecords) → to ≤ next → StandBetween from to functions
    → StandBetween from next functions
stand_up_to from to next [] more stand = omega (arith, more, stand)
stand_up_to from to next (f ∷ functions) more stand =
    (stand.0, (stand.1.0, stand_up_to (f.last + 1) to next functions more stand.1.1))

-- functions after which one more stands
pub stand_pushed : (from next : ℕ) (functions : List FunctionRecords) (f : FunctionRecords)
    → StandBetween from f.start functions → f.start ≤ f.last → f.last + 1 ≡ next
    → StandBetween from next (functions ++ f ∷ [])
stand_pushed from next [] f stand some ends = (stand, (some, omega (arith, ends)))
stand_pushed from next (g ∷ functions) f stand some ends =
    (stand.0, (stand.1.0, stand_pushed (g.last + 1) next functions f stand.1.1 some ends))

-- what is over an address before a function that stands after others is over it among those
pub over_before : (a : ℕ) (functions : List FunctionRecords) (f : FunctionRecords) → a < f.start
    → function_over a (functions ++ f ∷ []) ≡ function_over a functions
over_before a functions f below =
    let none : is_over a f ≡ false = ahead a f below in
    let nothing : function_over a (f ∷ []) ≡ None = grind (arith, common_steps, none) in
    let same : option_or (function_over a functions) None ≡ function_over a functions = grind (arith, common_steps) in
    find-append (is_over a) functions (f ∷ []) ∙ ap (option_or (function_over a functions)) nothing ∙ same

-- a function after others is over its addresses
pub over_last : (a from : ℕ) (functions : List FunctionRecords) (f : FunctionRecords)
    → StandBetween from f.start functions → f.start ≤ a → a ≤ f.last
    → function_over a (functions ++ f ∷ []) ≡ Some f
over_last a from functions f stand begins to =
    let is : is_over a f ≡ true = within a f begins to in
    let there : function_over a (f ∷ []) ≡ Some f = grind (arith, common_steps, is) in
    find-append (is_over a) functions (f ∷ [])
    ∙ ap (λ found. option_or found (function_over a (f ∷ []))) (none_over a from f.start functions stand begins)
    ∙ there

-- a reader is shown what it was shown, once more names have numbers
pub shows_still : {S : Type 0} (answers : S → ℕ → Option FramesInfo → Type 0) (source : S) (old new : Numbers)
    (f : FunctionRecords) (a : ℕ) → KeepsAllNames old new → Shows answers source old f a → Shows answers source new f a
shows_still answers source old new f a keeps shown =
    (shown.0, shown.1, still_reads old new f f a (answer_shown (turned shown.0)) keeps refl refl refl shown.2)

-- so by whatever function is over the address
pub over_still : {S : Type 0} (answers : S → ℕ → Option FramesInfo → Type 0) (source : S) (old new : Numbers) (a : ℕ)
    (found : Option FunctionRecords) → KeepsAllNames old new → ShowsOver answers source old a found
    → ShowsOver answers source new a found
over_still answers source old new a None keeps is = is
over_still answers source old new a (Some f) keeps is = shows_still answers source old new f a keeps is

-- what is shown of a later source is right for the first
pub over_first : {S : Type 0} (answers : S → ℕ → Option FramesInfo → Type 0) (first source : S) (numbers : Numbers)
    (a : ℕ) (found : Option FunctionRecords) → KeepsAnswers answers first source
    → ShowsOver answers source numbers a found → ShowsOver answers first numbers a found
over_first answers first source numbers a None keeps is = (keeps a None).0 is
over_first answers first source numbers a (Some f) keeps is = (is.0, (keeps a (Some is.0)).0 is.1, is.2)
