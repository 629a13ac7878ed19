-- Packed unwind data: the numbers that determine the canonical prologue of a function.
use Rattle.std.specs.Prelude.{ℕ, ◌+◌, ◌-◌, ◌*◌, ◌/◌, ◌%◌, ◌==◌, ◌||◌, Bool, true, false, not, if◌then◌else◌}
use Rattle.pe_unwind_arm64.specs.declared.packed_data.Link.{Link}
use Rattle.pe_unwind_arm64.specs.declared.packed_data.Link.TheVariants.{Chain, Kept, Saved, SignedChain}
use Rattle.pe_unwind_arm64.specs.declared.packed_data.Packed.{Packed}

-- what was done with x30, by the two bits of CR: nothing; stored after the other registers; signed, and stored with
-- x29, which was set to the stack pointer; or the last without signing
abbrev pub link_of : ℕ → Link
link_of number =
    if number == 0 then Kept else
    if number == 1 then Saved else
    if number == 2 then SignedChain else
    Chain

-- the length of a function in instructions, in 11 bits after the two of the flag
abbrev pub packed_length : ℕ → ℕ
packed_length number = number / 4 % 2048

-- the packed numbers: whether there are a prologue and an epilogue (flag 1); how many registers from d8 on were stored,
-- less one (RegF, 3 bits); how many from x19 on (RegI, 4 bits); whether parameters were stored (H); what was done with
-- x30 (CR, 2 bits); and the size of the frame in units of 16 bytes (FrameSize, 9 bits)
abbrev pub packed_of : ℕ → Packed
packed_of number = record {
  has_ends = number % 4 == 1;
  floats = number / 0x2000 % 8;
  registers = number / 0x10000 % 16;
  is_homed = number / 0x100000 % 2 == 1;
  link = link_of (number / 0x200000 % 4);
  frame = number / 0x800000 * 16;
}

-- whether x30 was stored after the other registers
abbrev pub is_saved : Link → Bool
is_saved Saved = true
is_saved link = false

-- whether x29 and x30 were stored in the frame, and x29 was set to the stack pointer
abbrev pub is_chained : Link → Bool
is_chained SignedChain = true
is_chained Chain = true
is_chained link = false

-- whether x30 was signed
abbrev pub is_signed : Link → Bool
is_signed SignedChain = true
is_signed link = false

-- the size of the stored registers from x19 on, in bytes, with x30 if it was stored after them
abbrev pub register_size : Packed → ℕ
register_size packed = 8 * packed.registers + (if is_saved packed.link then 8 else 0)

-- the size of the stored registers from d8 on, in bytes
abbrev pub float_size : Packed → ℕ
float_size packed = if packed.floats == 0 then 0 else 8 * packed.floats + 8

-- the size of the stored parameters in bytes, x0 to x7
abbrev pub home_size : Packed → ℕ
home_size packed = if packed.is_homed then 64 else 0

-- the size of all stored registers in bytes, rounded up to 16
abbrev pub saved_size : Packed → ℕ
saved_size packed = (register_size packed + float_size packed + home_size packed + 15) / 16 * 16

-- the size of the rest of the frame in bytes
abbrev pub local_size : Packed → ℕ
local_size packed = packed.frame - saved_size packed

-- whether the first store of general registers moved the stack pointer
abbrev pub is_moved : Packed → Bool
is_moved packed = not (packed.registers == 0) || is_saved packed.link
