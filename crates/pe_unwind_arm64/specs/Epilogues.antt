-- The unwind info of a function: the unwind codes, the prologue, and the epilogues. Offsets in a function count
-- instructions, of four bytes each.
use Rattle.std.specs.Prelude.{ℕ, ◌+◌, ◌-◌, ◌==◌, ◌&&◌, ◌||◌, Bool, true, false, nat_le, nat_lt, List, [], ◌∷◌}
use Rattle.std.specs.Prelude.{◌≤◌, ◌<◌, Result, Ok, Err, if◌then◌else◌}
use Rattle.pe_unwind_arm64.specs.UnwindErrors.{◌>>=◌}
use Rattle.pe_unwind_arm64.specs.Registers.{index}
use Rattle.pe_unwind_arm64.specs.Rules.{is_end}
use Rattle.pe_unwind_arm64.specs.UnwindCodes.{codes_from}
use Rattle.pe_unwind_arm64.specs.declared.epilogues.Counted.{Counted}
use Rattle.pe_unwind_arm64.specs.declared.epilogues.Counted.TheVariants.{All, Bad, Chained, One}
use Rattle.pe_unwind_arm64.specs.declared.epilogues.Epilogue.{Epilogue}
use Rattle.pe_unwind_arm64.specs.declared.unwind_errors.EntryError.{EntryError}
use Rattle.pe_unwind_arm64.specs.declared.unwind_errors.EntryError.TheVariants.{CodesCut, EpilogueOutsideOfFunction}
use Rattle.pe_unwind_arm64.specs.declared.unwind_errors.EntryError.TheVariants.{EpiloguesOverlap, FrameLost}
use Rattle.pe_unwind_arm64.specs.declared.unwind_codes.Operation.{Operation}
use Rattle.pe_unwind_arm64.specs.declared.unwind_codes.Operation.TheVariants.{AddFrame, End, EndChained, Push}
use Rattle.pe_unwind_arm64.specs.declared.unwind_codes.Operation.TheVariants.{PushPair, Save, SavePair, SaveWithLink}
use Rattle.pe_unwind_arm64.specs.declared.unwind_codes.Operation.TheVariants.{SetFrame, Unusable}
use Rattle.pe_unwind_arm64.specs.declared.unwind_codes.UnwindCode.{UnwindCode}

-- how an unwind code counts: as one instruction, as the end of the function's own codes, as the end of all codes, or
-- not at all, since it can't be undone
abbrev pub counts_as : Operation → Counted
counts_as End = All
counts_as EndChained = Chained
counts_as (Unusable refusal) = Bad refusal
counts_as operation = One

-- the count with the next code, unless the function's own codes have ended
abbrev pub with_next : ℕ → Bool → ℕ
with_next count chained = if chained then count else count + 1

-- the number of instructions of codes, by how the first of them counts, and by the number for those after it
abbrev pub count_by : (ℕ → Bool → Result ℕ EntryError) → ℕ → Bool → Counted → Result ℕ EntryError
count_by others count chained All = Ok count
count_by others count chained Chained = others count true
count_by others count chained (Bad refusal) = Err refusal
count_by others count chained One = others (with_next count chained) chained

-- the number of instructions of codes, added to `count`; `chained` tells whether the function's own codes have ended.
-- It must be possible to undo each code up to the end code
abbrev pub own_count_from : ℕ → Bool → List UnwindCode → Result ℕ EntryError
own_count_from count chained [] = Err CodesCut
own_count_from count chained (code ∷ codes) =
    count_by (λ more ended. own_count_from more ended codes) count chained (counts_as code.operation)

-- whether an operation stored x29
abbrev pub saves_frame : Operation → Bool
saves_frame (Save register offset) = index register == 10
saves_frame (SavePair first offset) = (index first == 9) || (index first == 10)
saves_frame (SaveWithLink register offset) = index register == 10
saves_frame (Push register bytes) = index register == 10
saves_frame (PushPair first bytes) = (index first == 9) || (index first == 10)
saves_frame operation = false

-- whether an operation set x29
abbrev pub sets_frame : Operation → Bool
sets_frame SetFrame = true
sets_frame (AddFrame bytes) = true
sets_frame operation = false

-- whether x29 was set before it was stored, so that the stored value isn't the caller's. Codes list the store first;
-- `stored` tells whether a code before these has stored it
abbrev pub is_frame_lost : Bool → List UnwindCode → Bool
is_frame_lost stored [] = false
is_frame_lost stored (code ∷ codes) =
    if is_end code.operation then false else
    if stored && sets_frame code.operation then true else
    is_frame_lost (stored || saves_frame code.operation) codes

-- the number of instructions of the first codes, up to the end of the function's own ones
abbrev pub own_count : List UnwindCode → Result ℕ EntryError
own_count codes = if is_frame_lost false codes then Err FrameLost else own_count_from 0 false codes

-- the epilogue that begins at an offset, with `count` codes from an index on: one instruction for each of them, and one
-- more that leaves the function. It must begin at or after the end of the one before, and end in its function
abbrev pub epilogue_with : ℕ → ℕ → ℕ → ℕ → ℕ → Result Epilogue EntryError
epilogue_with reach length start index count =
    if nat_lt start reach then Err EpiloguesOverlap else
    if nat_lt length (start + count + 1) then Err EpilogueOutsideOfFunction else
    Ok (record { start = start; end = start + count + 1; index = index })

-- the epilogue that begins at an offset, with the codes from an index on
abbrev pub epilogue_of : ℕ → ℕ → List UnwindCode → ℕ → ℕ → Result Epilogue EntryError
epilogue_of reach length codes start index =
    own_count (codes_from index codes) >>= epilogue_with reach length start index

-- the epilogue at the end of its function, with `count` codes from an index on
abbrev pub last_with : ℕ → ℕ → ℕ → Result Epilogue EntryError
last_with length index count =
    if nat_lt length (count + 1) then Err EpilogueOutsideOfFunction else
    Ok (record { start = length - (count + 1); end = length; index = index })

-- the epilogue at the end of its function, with the codes from an index on
abbrev pub last_epilogue : ℕ → List UnwindCode → ℕ → Result Epilogue EntryError
last_epilogue length codes index = own_count (codes_from index codes) >>= last_with length index

-- the epilogues that end after an offset
abbrev pub epilogues_left : ℕ → List Epilogue → List Epilogue
epilogues_left offset [] = []
epilogues_left offset (epilogue ∷ epilogues) =
    if nat_le epilogue.end offset then epilogues_left offset epilogues else epilogue ∷ epilogues

-- each epilogue begins at or after the end of those before it, and none is empty
abbrev pub InOrder : ℕ → List Epilogue → Type 0
InOrder reach [] = Unit {0}
InOrder reach (epilogue ∷ epilogues) =
    (reach ≤ epilogue.start) × ((epilogue.start < epilogue.end) × InOrder epilogue.end epilogues)

-- an offset is in no epilogue: it is before the start of each epilogue that ends after it
abbrev pub AreOutside : ℕ → List Epilogue → Type 0
AreOutside offset [] = Unit {0}
AreOutside offset (epilogue ∷ epilogues) =
    (offset < epilogue.end → offset < epilogue.start) × AreOutside offset epilogues
