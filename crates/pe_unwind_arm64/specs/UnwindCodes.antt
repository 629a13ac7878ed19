-- Unwind codes: what the instructions of a function's prologue did, from the last one to the first.
use Rattle.std.specs.Prelude.{ℕ, zero, suc, ◌+◌, ◌-◌, ◌*◌, ◌/◌, ◌%◌, ◌==◌, ◌<◌, Bool, nat_le, nat_lt}
use Rattle.std.specs.Prelude.{List, [], ◌∷◌, drop, length, slice_index, if◌then◌else◌}
use Rattle.pe_unwind_arm64.specs.Registers.{index, register}
use Rattle.pe_unwind_arm64.specs.declared.unwind_errors.EntryError.TheVariants.{AnyRegister, CodesCut, CustomStack, NextOfNoPair}
use Rattle.pe_unwind_arm64.specs.declared.unwind_errors.EntryError.TheVariants.{ScalableVectors, UnknownCode, UnknownRegister}
use Rattle.pe_unwind_arm64.specs.declared.registers.Register.{Register}
use Rattle.pe_unwind_arm64.specs.declared.registers.Register.TheVariants.{X19, X29}
use Rattle.pe_unwind_arm64.specs.declared.unwind_codes.Operation.{Operation}
use Rattle.pe_unwind_arm64.specs.declared.unwind_codes.Operation.TheVariants.{AddFrame, Allocate, End, EndChained}
use Rattle.pe_unwind_arm64.specs.declared.unwind_codes.Operation.TheVariants.{Push, PushFloats, PushPair, Save}
use Rattle.pe_unwind_arm64.specs.declared.unwind_codes.Operation.TheVariants.{SaveFloats, SavePair, SaveWithLink}
use Rattle.pe_unwind_arm64.specs.declared.unwind_codes.Operation.TheVariants.{SetFrame, Unseen, Unusable}
use Rattle.pe_unwind_arm64.specs.declared.unwind_codes.UnwindCode.{UnwindCode}

-- the size of a code in bytes, by its first byte
abbrev pub code_size : ℕ → ℕ
code_size byte =
    if nat_lt byte 0xc0 then 1 else
    if nat_lt byte 0xe0 then 2 else
    if byte == 0xe0 then 4 else
    if byte == 0xe2 then 2 else
    if byte == 0xe7 then 3 else
    1

-- a pair is stored at an offset that a code can have
abbrev pub IsNear : Operation → Type 0
IsNear (SavePair first offset) = offset < 1024
IsNear operation = Unit {0}

-- the operation of a one-byte code below C0: alloc_s (000xxxxx) moved the stack pointer down by units of 16 bytes;
-- save_r19r20_x (001zzzzz) moved it by units of 8 and stored x19 and x20 there; save_fplr (01zzzzzz) stored x29 and x30
-- at units of 8; save_fplr_x (10zzzzzz) moved the stack pointer by one unit more than its number, and stored them there
abbrev pub short_operation : ℕ → Operation
short_operation byte =
    if nat_lt byte 0x20 then Allocate (byte * 16) else
    if nat_lt byte 0x40 then PushPair X19 ((byte - 0x20) * 8) else
    if nat_lt byte 0x80 then SavePair X29 ((byte - 0x40) * 8) else
    PushPair X29 ((byte - 0x80) * 8 + 8)

-- the operation on a register, if the register exists; `last` is the number of the last one after x19
abbrev pub if_known : ℕ → Operation → Operation
if_known last operation = if nat_le last 11 then operation else Unusable UnknownRegister

-- the operation of a code on general registers, by its first byte and by its two bytes as a big-endian number.
-- save_regp (110010xx xxzzzzzz) and save_regp_x (110011xx xxzzzzzz) store a pair that is x after x19; save_reg
-- (110100xx xxzzzzzz) and save_reg_x (1101010x xxxzzzzz) store one register; save_lrpair (1101011x xxzzzzzz) stores the
-- register that is 2x after x19, and x30
abbrev pub save_operation : ℕ → ℕ → Operation
save_operation byte number =
    if nat_lt byte 0xcc then
    if_known (number / 64 % 16 + 1) (SavePair (register (number / 64 % 16)) (number % 64 * 8)) else
    if nat_lt byte 0xd0 then
    if_known (number / 64 % 16 + 1) (PushPair (register (number / 64 % 16)) (number % 64 * 8 + 8)) else
    if nat_lt byte 0xd4 then
    if_known (number / 64 % 16) (Save (register (number / 64 % 16)) (number % 64 * 8)) else
    if nat_lt byte 0xd6 then
    if_known (number / 32 % 16) (Push (register (number / 32 % 16)) (number % 32 * 8 + 8)) else
    if_known (2 * (number / 64 % 8) + 1) (SaveWithLink (register (2 * (number / 64 % 8))) (number % 64 * 8))

-- the operation of a code on the registers d8 to d15, which aren't shown: save_fregp (1101100x xxzzzzzz) stored a pair,
-- and save_fregp_x (1101101x xxzzzzzz) also moved the stack pointer; save_freg (1101110x xxzzzzzz) and save_freg_x
-- (11011110 xxxzzzzz) did so with one register
abbrev pub float_operation : ℕ → ℕ → Operation
float_operation byte number =
    if nat_lt byte 0xda then SaveFloats else
    if nat_lt byte 0xdc then PushFloats (number % 64 * 8 + 8) else
    if nat_lt byte 0xde then Unseen else
    Allocate (number % 32 * 8 + 8)

-- the operation of a two-byte code, by the first byte and by both as a number: alloc_m (11000xxx xxxxxxxx) moved the
-- stack pointer down by units of 16 bytes; alloc_z (DF) moved it by units of a vector's size
abbrev pub long_operation : ℕ → ℕ → Operation
long_operation byte number =
    if nat_lt byte 0xc8 then Allocate (number % 2048 * 16) else
    if nat_lt byte 0xd8 then save_operation byte number else
    if byte == 0xdf then Unusable ScalableVectors else
    float_operation byte number

-- the first two bytes of a code as a big-endian number
abbrev pub number_of_two : List ℕ → ℕ
number_of_two bytes = slice_index bytes 0 * 256 + slice_index bytes 1

-- the three bytes after the first one of a code as a big-endian number
abbrev pub large_number : List ℕ → ℕ
large_number bytes = slice_index bytes 1 * 65536 + slice_index bytes 2 * 256 + slice_index bytes 3

-- the operation of a code whose first byte is E0 or above. alloc_l (E0) moved the stack pointer down by units of 16
-- bytes; set_fp (E1) set x29 to the stack pointer, and add_fp (E2) to a number of 8-byte units above it. nop (E3) and
-- pac_sign_lr (FC) did nothing that is shown, so a signed return address keeps the bits of its signature. end (E4) and
-- end_c (E5) are no instructions of a prologue; save_next (E6) has no operation of its own
abbrev pub other_operation : ℕ → List ℕ → Operation
other_operation byte bytes =
    if byte == 0xe0 then Allocate (large_number bytes * 16) else
    if byte == 0xe1 then SetFrame else
    if byte == 0xe2 then AddFrame (slice_index bytes 1 * 8) else
    if byte == 0xe3 then Unseen else
    if byte == 0xe4 then End else
    if byte == 0xe5 then EndChained else
    if byte == 0xe6 then Unusable NextOfNoPair else
    if byte == 0xe7 then Unusable AnyRegister else
    if nat_le byte 0xec then Unusable CustomStack else
    if byte == 0xfc then Unseen else
    Unusable UnknownCode

-- the operation of the first code, if the bytes have all of it
abbrev pub own_operation : List ℕ → Operation
own_operation bytes =
    if nat_lt (length bytes) (code_size (slice_index bytes 0)) then Unusable CodesCut else
    if nat_lt (slice_index bytes 0) 0xc0 then short_operation (slice_index bytes 0) else
    if nat_lt (slice_index bytes 0) 0xe0 then long_operation (slice_index bytes 0) (number_of_two bytes) else
    other_operation (slice_index bytes 0) bytes

-- storing the pair that is `count` pairs after another, and 16 bytes higher for each; the last such pair is x27 and x28
abbrev pub pair_behind : ℕ → Register → ℕ → Operation
pair_behind count first offset =
    if nat_le (index first + 2 * count) 8 then SavePair (register (index first + 2 * count)) (offset + 16 * count)
    else Unusable NextOfNoPair

-- the operation of the first of `count` save_next codes, by the operation of the code after them: it stored the pair
-- that is `count` pairs after that code's
abbrev pub operation_behind : ℕ → Operation → Operation
operation_behind count (SavePair first offset) = pair_behind count first offset
operation_behind count (PushPair first bytes) = pair_behind count first 0
operation_behind count SaveFloats = SaveFloats
operation_behind count (PushFloats bytes) = SaveFloats
operation_behind count operation = Unusable NextOfNoPair

-- whether bytes begin with a save_next code, E6
abbrev pub is_next : List ℕ → Bool
is_next bytes = slice_index bytes 0 == 0xe6

-- the operation of a save_next code, by the bytes after it and the number `count` of such codes so far; at most this
-- many more are skipped
abbrev pub next_up_to : ℕ → ℕ → List ℕ → Operation
next_up_to zero count bytes = operation_behind count (own_operation bytes)
next_up_to (suc left) count bytes =
    if is_next bytes then next_up_to left (count + 1) (drop 1 bytes) else operation_behind count (own_operation bytes)

-- the operation of a save_next code, by the bytes after it; no pair is more than four after another
unfoldable pub next_operation : List ℕ → Operation
next_operation bytes = next_up_to 4 1 bytes

-- the operation of the first code
abbrev pub operation_of : List ℕ → Operation
operation_of bytes = if is_next bytes then next_operation (drop 1 bytes) else own_operation bytes

-- at most this many codes, until the bytes end; each has its index, the number of bytes before it
abbrev pub codes_up_to : ℕ → ℕ → List ℕ → List UnwindCode
codes_up_to zero total bytes = []
codes_up_to (suc count) total bytes =
    if length bytes == 0 then [] else
    record { index = total - length bytes; operation = operation_of bytes }
    ∷ codes_up_to count total (drop (code_size (slice_index bytes 0)) bytes)

-- all codes in these bytes. Each takes at least one byte, so there are at most as many codes as bytes
unfoldable pub codes_in : List ℕ → List UnwindCode
codes_in bytes = codes_up_to (length bytes) (length bytes) bytes

-- the codes from the one with this index on; none if no code has it
abbrev pub codes_from : ℕ → List UnwindCode → List UnwindCode
codes_from index [] = []
codes_from index (code ∷ codes) = if code.index == index then code ∷ codes else codes_from index codes
