-- Unwind codes: what the instructions of a function's prologue did, from the last one to the first.
use Rattle.std.specs.Prelude.{ℕ, zero, suc, ◌+◌, ◌*◌, ◌/◌, ◌%◌, ◌==◌, nat_lt, List, [], ◌∷◌, drop, length}
use Rattle.std.specs.Prelude.{Option, Some, None, Result, Ok, Err, slice_index, unwrap_or, if◌then◌else◌}
use Rattle.std.specs.Option.{ok_or}
use Rattle.pe_image.specs.NumbersAt.{number_at}
use Rattle.pe_unwind.specs.UnwindErrors.{◌>>=◌, behind}
use Rattle.pe_unwind.specs.Registers.{register}
use Rattle.pe_unwind.specs.declared.unwind_errors.EntryError.{EntryError}
use Rattle.pe_unwind.specs.declared.unwind_errors.EntryError.TheVariants.{CodesCut, UnknownCode}
use Rattle.pe_unwind.specs.declared.unwind_codes.Operation.{Operation}
use Rattle.pe_unwind.specs.declared.unwind_codes.Operation.TheVariants.{Allocate, Epilogue, MachineFrame, Push, Save}
use Rattle.pe_unwind.specs.declared.unwind_codes.Operation.TheVariants.{SetFrame, Unseen}
use Rattle.pe_unwind.specs.declared.unwind_codes.UnwindCode.{UnwindCode}

-- UWOP_PUSH_NONVOL: a register was pushed
abbrev pub uwop_push_nonvol : ℕ
uwop_push_nonvol = 0

-- UWOP_ALLOC_LARGE: the stack pointer was moved by a size in the slots after the code
abbrev pub uwop_alloc_large : ℕ
uwop_alloc_large = 1

-- UWOP_ALLOC_SMALL: the stack pointer was moved by a size in the operation info
abbrev pub uwop_alloc_small : ℕ
uwop_alloc_small = 2

-- UWOP_SET_FPREG: the frame register was set
abbrev pub uwop_set_fpreg : ℕ
uwop_set_fpreg = 3

-- UWOP_SAVE_NONVOL: a register was stored in the frame
abbrev pub uwop_save_nonvol : ℕ
uwop_save_nonvol = 4

-- UWOP_SAVE_NONVOL_FAR: the same, with an offset in two slots
abbrev pub uwop_save_nonvol_far : ℕ
uwop_save_nonvol_far = 5

-- UWOP_EPILOG: where an epilogue is, in version 2
abbrev pub uwop_epilog : ℕ
uwop_epilog = 6

-- UWOP_SPARE_CODE: a code of version 2 without a meaning
abbrev pub uwop_spare_code : ℕ
uwop_spare_code = 7

-- UWOP_SAVE_XMM128: a register of floating point numbers was stored in the frame
abbrev pub uwop_save_xmm128 : ℕ
uwop_save_xmm128 = 8

-- UWOP_SAVE_XMM128_FAR: the same, with an offset in two slots
abbrev pub uwop_save_xmm128_far : ℕ
uwop_save_xmm128_far = 9

-- UWOP_PUSH_MACHFRAME: the processor pushed a machine frame
abbrev pub uwop_push_machframe : ℕ
uwop_push_machframe = 10

-- the number of two-byte slots of a code, by its kind and its operation info; UWOP_EPILOG and UWOP_SPARE_CODE exist
-- only in version 2
abbrev pub slot_count : ℕ → ℕ → ℕ → Option ℕ
slot_count version kind info =
    if kind == uwop_push_nonvol then Some 1 else
    if kind == uwop_alloc_large then (if info == 0 then Some 2 else if info == 1 then Some 3 else None) else
    if kind == uwop_alloc_small then Some 1 else
    if kind == uwop_set_fpreg then Some 1 else
    if kind == uwop_save_nonvol then Some 2 else
    if kind == uwop_save_nonvol_far then Some 3 else
    if kind == uwop_epilog then (if version == 2 then Some 1 else None) else
    if kind == uwop_spare_code then (if version == 2 then Some 3 else None) else
    if kind == uwop_save_xmm128 then Some 2 else
    if kind == uwop_save_xmm128_far then Some 3 else
    if kind == uwop_push_machframe then Some 1 else
    None

-- the number in the slot after a code
abbrev pub small_operand : List ℕ → ℕ
small_operand operands = unwrap_or (number_at 2 operands 0) 0

-- the number in the two slots after a code
abbrev pub large_operand : List ℕ → ℕ
large_operand operands = unwrap_or (number_at 4 operands 0) 0

-- the operation of a code, by its kind, its operation info and the bytes of the slots after it. A size or an offset is
-- in units of 8 bytes in one slot, and in bytes in two slots; operations on xmm registers aren't shown
abbrev pub operation_of : ℕ → ℕ → List ℕ → Operation
operation_of kind info operands =
    if kind == uwop_push_nonvol then Push (register info) else
    if kind == uwop_alloc_large then
    (if info == 0 then Allocate (small_operand operands * 8) else Allocate (large_operand operands)) else
    if kind == uwop_alloc_small then Allocate (info * 8 + 8) else
    if kind == uwop_set_fpreg then SetFrame else
    if kind == uwop_save_nonvol then Save (register info) (small_operand operands * 8) else
    if kind == uwop_save_nonvol_far then Save (register info) (large_operand operands) else
    if kind == uwop_epilog then Epilogue info else
    if kind == uwop_push_machframe then MachineFrame (info == 1) else
    Unseen

-- the first code, which takes `count` slots, and the bytes after it: the offset in the prologue, then the kind in the
-- low four bits of a byte and the operation info in its high four bits
abbrev pub code_of : List ℕ → ℕ → Result (UnwindCode × List ℕ) EntryError
code_of bytes count =
    if nat_lt (length bytes) (2 * count) then Err CodesCut else Ok (
      record {
        offset = slice_index bytes 0;
        operation = operation_of (slice_index bytes 1 % 16) (slice_index bytes 1 / 16) (drop 2 bytes);
      },
      drop (2 * count) bytes,
    )

-- the code at the front, and the bytes after it
abbrev pub first_code : ℕ → List ℕ → Result (UnwindCode × List ℕ) EntryError
first_code version bytes = do
  count ← ok_or (slot_count version (slice_index bytes 1 % 16) (slice_index bytes 1 / 16)) UnknownCode
  code_of bytes count

-- at most `count` codes, until the bytes end
abbrev pub codes_up_to : ℕ → ℕ → List ℕ → Result (List UnwindCode) EntryError
codes_up_to zero version bytes = Ok []
codes_up_to (suc count) version bytes =
    if length bytes == 0 then Ok [] else (do
      read ← first_code version bytes
      behind (read.0 ∷ []) (codes_up_to count version read.1))

-- all codes in these bytes. Each takes at least one slot, so there are at most as many codes as bytes
unfoldable pub unwind_codes : ℕ → List ℕ → Result (List UnwindCode) EntryError
unwind_codes version bytes = codes_up_to (length bytes) version bytes
