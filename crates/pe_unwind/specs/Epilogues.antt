-- Epilogues: the instructions that free a function's frame and leave the function, and the rules between them.
use Rattle.std.specs.Prelude.{ℕ, zero, suc, ◌+◌, ◌-◌, ◌*◌, ◌/◌, ◌%◌, ◌^◌, ◌==◌, ◌&&◌, ◌||◌, Bool, not}
use Rattle.std.specs.Prelude.{nat_le}
use Rattle.std.specs.Prelude.{nat_lt, List, drop, length, slice_index, Option, Some, None, is_none}
use Rattle.std.specs.Prelude.{unwrap_or, if◌then◌else◌}
use Rattle.pe_image.specs.NumbersAt.{number_at}
use Rattle.pe_unwind.specs.Registers.{index, register}
use Rattle.pe_unwind.specs.Rules.{Function, above, at_first, popped, rules_of, stack_top, sum_of, with_saved}
use Rattle.pe_unwind.specs.declared.epilogues.Restored.{Restored}
use Rattle.pe_unwind.specs.declared.epilogues.Pop.{Pop}
use Rattle.pe_unwind.specs.declared.rules.Rules.{Rules}
use Rattle.pe_unwind.specs.declared.rules.Unwound.{Unwound}
use Rattle.pe_unwind.specs.declared.unwind_info.FrameRegister.{FrameRegister}

-- a signed one-byte number; a negative one as its 64-bit two's complement
abbrev pub signed_byte : ℕ → ℕ
signed_byte byte = if nat_lt byte 128 then byte else byte + (2 ^ 64 - 2 ^ 8)

-- a signed four-byte number; a negative one as its 64-bit two's complement
abbrev pub signed_number : ℕ → ℕ
signed_number number = if nat_lt number (2 ^ 31) then number else number + (2 ^ 64 - 2 ^ 32)

-- the number in the four bytes at an offset of an instruction
abbrev pub operand : List ℕ → ℕ → ℕ
operand code at = unwrap_or (number_at 4 code at) 0

-- whether code begins with these two bytes, and has at least `size` bytes
abbrev pub begins_with : ℕ → ℕ → ℕ → List ℕ → Bool
begins_with a b size code = (slice_index code 0 == a) && (slice_index code 1 == b) && nat_le size (length code)

-- add rsp, imm8 (48 83 C4 ib)
abbrev pub adds_byte : List ℕ → Bool
adds_byte code = begins_with 0x48 0x83 4 code && (slice_index code 2 == 0xc4)

-- add rsp, imm32 (48 81 C4 id)
abbrev pub adds_number : List ℕ → Bool
adds_number code = begins_with 0x48 0x81 7 code && (slice_index code 2 == 0xc4)

-- lea rsp, [register + disp8] and lea rsp, [register + disp32]: REX.W, with REX.B for r8 to r15, then 8D, and ModRM
-- with rsp and the register, of the mode 01 for a byte and 10 for four; r12 has another form, which isn't looked for
abbrev pub leas : ℕ → ℕ → ℕ → List ℕ → Bool
leas number mode size code = not (number % 8 == 4)
    && begins_with (0x48 + number / 8) 0x8d size code && (slice_index code 2 == mode * 64 + 0x20 + number % 8)

-- the stack pointer after a lea by a frame register, and the bytes after it
abbrev pub lea_by : FrameRegister → List ℕ → Restored
lea_by frame code =
    if leas (index frame.register) 1 4 code then record {
      stack = record { register = frame.register; offset = signed_byte (slice_index code 3) };
      size = 4;
    } else if leas (index frame.register) 2 7 code then record {
      stack = record { register = frame.register; offset = signed_number (operand code 3) };
      size = 7;
    } else record { stack = stack_top; size = 0 }

-- the stack pointer after a lea by the frame register, if the function has one, and the bytes after it
abbrev pub lea_if : Option FrameRegister → List ℕ → Restored
lea_if None code = record { stack = stack_top; size = 0 }
lea_if (Some frame) code = lea_by frame code

-- the stack pointer after the instruction that frees the frame, and the size of the instruction; none if there is no
-- such instruction
abbrev pub stack_restored : Option FrameRegister → List ℕ → Restored
stack_restored frame code =
    if adds_byte code then record { stack = above stack_top (signed_byte (slice_index code 3)); size = 4 } else
    if adds_number code then record { stack = above stack_top (signed_number (operand code 3)); size = 7 } else
    lea_if frame code

-- whether a byte is the opcode of a pop (58 + r)
abbrev pub is_pop : ℕ → Bool
is_pop byte = nat_le 0x58 byte && nat_lt byte 0x60

-- the pop at the start of code, if there is one: 58 + r, or 41 58 + r for r8 to r15. pop rsp (5C) doesn't count: no
-- epilogue has it, and it is the second byte of pop r12
abbrev pub first_pop : List ℕ → Option Pop
first_pop code =
    if is_pop (slice_index code 0) && not (slice_index code 0 == 0x5c)
    then Some (record { register = register (slice_index code 0 - 0x58); size = 1 }) else
    if (slice_index code 0 == 0x41) && is_pop (slice_index code 1)
    then Some (record { register = register (slice_index code 1 - 0x50); size = 2 }) else
    None

-- the effect of undoing a pop: the register is saved at the stack pointer, which then moves by 8 bytes
abbrev pub pop_undone : Pop → Unwound → Unwound
pop_undone pop u = popped 8 (with_saved pop.register u.stack u)

-- passes the code after its first pop to a computation; without a pop, nothing is undone
abbrev pub pops_by : (List ℕ → Unwound → Unwound × List ℕ)
    → List ℕ → Unwound → Option Pop → Unwound × List ℕ
pops_by others code u None = (u, code)
pops_by others code u (Some pop) = others (drop pop.size code) (pop_undone pop u)

-- the effect of the first pops of code, at most this many, and the bytes after them
abbrev pub pops_undone : ℕ → List ℕ → Unwound → Unwound × List ℕ
pops_undone zero code u = (u, code)
pops_undone (suc left) code u = pops_by (pops_undone left) code u (first_pop code)

-- the effect of the pops at the start of code, and the bytes after them; no function pops more than 16 registers
unfoldable pub first_pops : List ℕ → Unwound → Unwound × List ℕ
first_pops code u = pops_undone 16 code u

-- the bytes after the first pop of code, and after those that follow it
abbrev pub rest_by : (List ℕ → List ℕ) → List ℕ → Option Pop → List ℕ
rest_by others code None = code
rest_by others code (Some pop) = others (drop pop.size code)

-- the bytes after the first pops of code, at most this many
abbrev pub pops_rest : ℕ → List ℕ → List ℕ
pops_rest zero code = code
pops_rest (suc left) code = rest_by (pops_rest left) code (first_pop code)

-- ret (C3), ret imm16 (C2 iw) and rep ret (F3 C3)
abbrev pub returns : List ℕ → Bool
returns code = (slice_index code 0 == 0xc3)
    || ((slice_index code 0 == 0xc2) && nat_le 3 (length code))
    || begins_with 0xf3 0xc3 2 code

-- whether a jump to an address leaves a function: the address is outside the function, or its start unless its info is
-- chained
abbrev pub leaves_for : Function → ℕ → Bool
leaves_for function target = nat_lt target function.begin || nat_le function.end target
    || ((target == function.begin) && is_none function.own.parent)

-- whether code begins with a jump out of the function, by an offset from the next instruction: jmp rel8 (EB cb) and jmp
-- rel32 (E9 cd). The rest of the function's code ends where the function does
abbrev pub jumps_out : Function → List ℕ → Bool
jumps_out function code =
    ((slice_index code 0 == 0xeb) && nat_le 2 (length code)
    && leaves_for function (sum_of (function.end - (length code - 2)) (signed_byte (slice_index code 1))))
    || ((slice_index code 0 == 0xe9) && nat_le 5 (length code)
    && leaves_for function (sum_of (function.end - (length code - 5)) (signed_number (operand code 1))))

-- a jump through memory, FF 25 cd
abbrev pub jumps_through : List ℕ → Bool
jumps_through code = begins_with 0xff 0x25 6 code

-- a jump through memory or by a register after a prefix: 40 to 4F, then FF 25 cd; 48 to 4F, then FF E0 + r
abbrev pub jumps_prefixed : List ℕ → Bool
jumps_prefixed code =
    ((slice_index code 0 / 16 == 4) && jumps_through (drop 1 code))
    || ((slice_index code 0 / 8 == 9) && (slice_index code 1 == 0xff) && (slice_index code 2 / 8 == 28))

-- whether code begins with an instruction that leaves the function
abbrev pub leaves : Function → List ℕ → Bool
leaves function code = returns code || jumps_out function code || jumps_through code || jumps_prefixed code

-- the rules before pops and an instruction that leaves the function; none if no such instruction follows
abbrev pub rules_before : Function → Unwound × List ℕ → Option Rules
rules_before function undone = if leaves function undone.1 then Some (rules_of undone.0) else None

-- the rules at an instruction of a version 1 epilogue, by the function's code from there on: at most one instruction
-- that frees the frame, pops, and an instruction that leaves the function
abbrev pub epilogue_rules : Function → List ℕ → Option Rules
epilogue_rules function code =
    let front = stack_restored function.own.frame code in
    rules_before function (first_pops (drop front.size code) (record at_first { stack = front.stack }))

-- whether the two bytes after a prefix (40 to 4F) may be those of an epilogue: add to rsp, lea to rsp, a jump or a pop
abbrev pub may_follow : ℕ → ℕ → Bool
may_follow second third = (((second == 0x81) || (second == 0x83)) && (third == 0xc4))
    || ((second == 0x8d) && (third / 8 % 8 == 4)) || (second == 0xff) || is_pop second

-- whether three bytes may start an epilogue: a prefix with what may follow it, a return, a jump or a pop
abbrev pub may_begin : ℕ → ℕ → ℕ → Bool
may_begin first second third =
    if first / 16 == 4 then may_follow second third else
    if first == 0xf3 then second == 0xc3 else
    if first == 0xff then second == 0x25 else
    (first == 0xc2) || (first == 0xc3) || (first == 0xe9) || (first == 0xeb) || is_pop first
