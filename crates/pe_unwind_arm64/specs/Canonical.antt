-- The canonical prologue of packed unwind data, and the epilogue that belongs to it, as operations: the last
-- instruction of the prologue comes first.
use Rattle.std.specs.Prelude.{ℕ, zero, suc, ◌-◌, ◌*◌, ◌/◌, ◌%◌, ◌==◌, ◌&&◌, ◌||◌, not, nat_le, List, [], ◌∷◌}
use Rattle.std.specs.Prelude.{◌++◌, replicate, if◌then◌else◌}
use Rattle.pe_unwind_arm64.specs.Packed.{is_chained, is_moved, is_saved, is_signed, local_size, saved_size}
use Rattle.pe_unwind_arm64.specs.Registers.{register}
use Rattle.pe_unwind_arm64.specs.declared.packed_data.Packed.{Packed}
use Rattle.pe_unwind_arm64.specs.declared.registers.Register.TheVariants.{X19, X29, X30}
use Rattle.pe_unwind_arm64.specs.declared.unwind_codes.Operation.{Operation}
use Rattle.pe_unwind_arm64.specs.declared.unwind_codes.Operation.TheVariants.{Allocate, Push, PushFloats, PushPair}
use Rattle.pe_unwind_arm64.specs.declared.unwind_codes.Operation.TheVariants.{Save, SaveFloats, SavePair}
use Rattle.pe_unwind_arm64.specs.declared.unwind_codes.Operation.TheVariants.{SaveWithLink, SetFrame, Unseen}

-- the stack pointer was moved down: in two steps if one instruction can't move it so far
abbrev pub allocated : ℕ → List Operation
allocated bytes =
    if bytes == 0 then [] else
    if nat_le bytes 4080 then Allocate bytes ∷ [] else
    Allocate (bytes - 4080) ∷ Allocate 4080 ∷ []

-- x29 and x30 were stored at the bottom of the frame; if one instruction can do it, it also moved the stack pointer
abbrev pub chain_part : ℕ → List Operation
chain_part bytes = if nat_le bytes 512 then PushPair X29 bytes ∷ [] else SavePair X29 0 ∷ allocated bytes

-- the rest of the frame was allocated, with x29 and x30 in it if they belong there
abbrev pub local_part : Packed → List Operation
local_part packed =
    if is_chained packed.link then chain_part (local_size packed) else allocated (local_size packed)

-- the first store of registers from d8 on: it moved the stack pointer, if no store before it had
abbrev pub first_float : Packed → Operation
first_float packed = if is_moved packed then SaveFloats else PushFloats (saved_size packed)

-- the registers from d8 on were stored in pairs; of an odd number, the last one alone
abbrev pub float_part : Packed → List Operation
float_part packed =
    if packed.floats == 0 then [] else replicate (packed.floats / 2) SaveFloats ++ first_float packed ∷ []

-- x30 was stored after the other registers, unless it was with the last of them
abbrev pub link_part : Packed → List Operation
link_part packed =
    if is_saved packed.link && (packed.registers % 2 == 0) then
    (if packed.registers == 0 then Push X30 (saved_size packed) ∷ [] else Save X30 (8 * packed.registers) ∷ [])
    else []

-- the store of the last register, which has no pair, `number` registers after x19; with x30 if this belongs there
abbrev pub last_register : Packed → ℕ → Operation
last_register packed number =
    if is_saved packed.link then SaveWithLink (register number) (8 * number) else Save (register number) (8 * number)

-- the last register was stored, if their number is odd
abbrev pub odd_part : Packed → List Operation
odd_part packed =
    if packed.registers % 2 == 0 then [] else
    if packed.registers == 1 then Push X19 (saved_size packed) ∷ [] else
    last_register packed (packed.registers - 1) ∷ []

-- a pair was stored, by the number of pairs before it; the first one also moved the stack pointer
abbrev pub pair_operation : ℕ → ℕ → Operation
pair_operation saved number =
    if number == 0 then PushPair X19 saved else SavePair (register (2 * number)) (16 * number)

-- this many pairs were stored, the last one first
abbrev pub pair_part : ℕ → ℕ → List Operation
pair_part saved zero = []
pair_part saved (suc number) = pair_operation saved number ∷ pair_part saved number

-- x30 was signed
abbrev pub sign_part : Packed → List Operation
sign_part packed = if is_signed packed.link then Unseen ∷ [] else []

-- the callee-saved registers were stored
abbrev pub saved_part : Packed → List Operation
saved_part packed = float_part packed
    ++ (link_part packed
    ++ (odd_part packed ++ (pair_part (saved_size packed) (packed.registers / 2) ++ sign_part packed)))

-- the first pair of parameters was stored: this moved the stack pointer, if nothing else had
abbrev pub first_home : Packed → Operation
first_home packed =
    if is_moved packed || not (packed.floats == 0) then Unseen else Allocate (saved_size packed)

-- the parameters were stored, in four pairs
abbrev pub home_part : Packed → List Operation
home_part packed =
    if packed.is_homed then Unseen ∷ Unseen ∷ Unseen ∷ first_home packed ∷ [] else []

-- parameters aren't loaded again; if their store moved the stack pointer, it is moved back
abbrev pub unhome_part : Packed → List Operation
unhome_part packed =
    if packed.is_homed && not (is_moved packed || not (packed.floats == 0)) then Allocate (saved_size packed) ∷ []
    else []

-- x29 was set to the stack pointer
abbrev pub frame_part : Packed → List Operation
frame_part packed = if is_chained packed.link then SetFrame ∷ [] else []

-- the operations of the prologue, from the last instruction to the first
abbrev pub prologue_part : Packed → List Operation
prologue_part packed = frame_part packed ++ (local_part packed ++ (home_part packed ++ saved_part packed))

-- the operations that the epilogue undoes, from its first instruction to the last; it doesn't use x29
abbrev pub epilogue_part : Packed → List Operation
epilogue_part packed = local_part packed ++ (unhome_part packed ++ saved_part packed)
