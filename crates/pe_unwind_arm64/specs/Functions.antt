-- The functions of the exception directory, with their unwind infos, and the rules at each offset.
use Rattle.std.specs.Prelude.{ℕ, ◌+◌, ◌-◌, ◌*◌, ◌/◌, ◌%◌, ◌^◌, ◌==◌, ◌&&◌, Bool, false, not, nat_le, nat_lt}
use Rattle.std.specs.Prelude.{List, [], ◌∷◌, length}
use Rattle.std.specs.Prelude.{Result, Ok, Err, if◌then◌else◌}
use Rattle.pe_image.specs.Image.{Program, bytes_from}
use Rattle.pe_image.specs.declared.arm64_directory.Arm64Entry.{Arm64Entry}
use Rattle.pe_unwind_arm64.specs.Epilogues.{epilogues_left}
use Rattle.pe_unwind_arm64.specs.UnwindErrors.{◌>>=◌}
use Rattle.pe_unwind_arm64.specs.Packed.{packed_length, packed_of}
use Rattle.pe_unwind_arm64.specs.PackedData.{packed_info}
use Rattle.pe_unwind_arm64.specs.Rules.{rules_behind}
use Rattle.pe_unwind_arm64.specs.UnwindCodes.{codes_from}
use Rattle.pe_unwind_arm64.specs.UnwindInfo.{Info, header_in, info_in}
use Rattle.pe_unwind_arm64.specs.declared.epilogues.Epilogue.{Epilogue}
use Rattle.pe_unwind_arm64.specs.declared.unwind_errors.EntryError.{EntryError}
use Rattle.pe_unwind_arm64.specs.declared.unwind_errors.EntryError.TheVariants.{Empty, OutsideOfImage, Overlapping, ReservedFlag}
use Rattle.pe_unwind_arm64.specs.declared.rules.Rules.{Rules}

-- the unwind info of an entry, by its UnwindData. If the low two bits are 0, UnwindData is the address of the info; if
-- they are 1 or 2, the info is packed in the other bits
abbrev pub info_of : Program → ℕ → Result Info EntryError
info_of program unwind =
    if unwind % 4 == 0 then info_in (bytes_from program unwind) else
    if unwind % 4 == 3 then Err ReservedFlag else
    packed_info (packed_of unwind) (packed_length unwind)

-- the rules of a function's body: all codes are undone
abbrev pub body_rules : Info → Rules
body_rules info = rules_behind 0 info.codes

-- the rules at an offset of an epilogue: the codes of its instructions before the offset aren't undone
abbrev pub epilogue_rules : Info → Epilogue → ℕ → Rules
epilogue_rules info epilogue offset = rules_behind (offset - epilogue.start) (codes_from epilogue.index info.codes)

-- whether the first of these epilogues has begun at an offset
abbrev pub is_begun : List Epilogue → ℕ → Bool
is_begun [] offset = false
is_begun (epilogue ∷ epilogues) offset = nat_le epilogue.start offset

-- the rules at an offset after the prologue, by the epilogues that end after it: those of the epilogue that has begun,
-- otherwise those of the body
abbrev pub rules_by : Info → List Epilogue → ℕ → Rules
rules_by info [] offset = body_rules info
rules_by info (epilogue ∷ epilogues) offset =
    if nat_le epilogue.start offset then epilogue_rules info epilogue offset else body_rules info

-- the rules at an offset, by the epilogues that end after it. In the prologue, the first codes, whose instructions
-- haven't run, aren't undone
abbrev pub rules_among : Info → List Epilogue → ℕ → Rules
rules_among info left offset =
    if nat_lt offset info.prologue then rules_behind (info.prologue - offset) info.codes else rules_by info left offset

-- whether the rules at an offset are those of the function's body, by the epilogues that end after it
abbrev pub is_plain : Info → List Epilogue → ℕ → Bool
is_plain info left offset = nat_le info.prologue offset && not (is_begun left offset)

-- the rules before an instruction of a function
unfoldable pub rules_before : Info → ℕ → Rules
rules_before info instruction = rules_among info (epilogues_left instruction info.epilogues) instruction

-- the rules at a byte offset of a function: those before the instruction at this offset, which has not run
abbrev pub rule_at : Info → ℕ → Rules
rule_at info offset = rules_before info (offset / 4)

-- a function: its start address, its length in instructions, and its unwind info
pub record Function : Type 0 where
  pub begin : ℕ
  pub length : ℕ
  pub info : Info

-- the size of a function in bytes
abbrev pub size_of : Function → ℕ
size_of function = 4 * function.length

-- the length of a function in instructions, by its UnwindData
abbrev pub length_of : Program → ℕ → Result ℕ EntryError
length_of program unwind =
    if unwind % 4 == 0 then (header_in (bytes_from program unwind) >>= λ header. Ok header.length) else
    if unwind % 4 == 3 then Err ReservedFlag else
    Ok (packed_length unwind)

-- the length of a function that begins at this address. The function must begin at or after the address up to which the
-- functions before it reach, must not be empty, and the image must have all its bytes
abbrev pub checked : Program → ℕ → ℕ → ℕ → Result ℕ EntryError
checked program reach begin count =
    if count == 0 then Err Empty else
    if nat_lt (length (bytes_from program begin)) (4 * count) then Err OutsideOfImage else
    if nat_le (2 ^ 32) (begin + 4 * count) then Err OutsideOfImage else
    if nat_lt begin reach then Err Overlapping else
    Ok count

-- the length of an entry's function, after functions that reach up to an address
abbrev pub length_at : Program → ℕ → Arm64Entry → Result ℕ EntryError
length_at program reach entry = length_of program entry.unwind >>= checked program reach entry.begin

-- the function of an entry, after functions that reach up to an address
abbrev pub function_at : Program → ℕ → Arm64Entry → Result Function EntryError
function_at program reach entry = do
  length ← length_at program reach entry
  info ← info_of program entry.unwind
  Ok (record { begin = entry.begin; length = length; info = info })

-- the address up to which functions reach after one with this start and length, if it isn't refused
abbrev pub reach_by : ℕ → ℕ → Result ℕ EntryError → ℕ
reach_by reach begin (Ok length) = begin + 4 * length
reach_by reach begin (Err refusal) = reach

-- the address up to which functions reach after an entry: the end of this one, if it isn't refused
abbrev pub reach_behind : Program → ℕ → Arm64Entry → ℕ
reach_behind program reach entry = reach_by reach entry.begin (length_at program reach entry)
