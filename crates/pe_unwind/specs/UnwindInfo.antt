-- UNWIND_INFO: the unwind info of a function, and the infos to which it is chained.
use Rattle.std.specs.Prelude.{ℕ, zero, suc, ◌+◌, ◌-◌, ◌*◌, ◌/◌, ◌%◌, ◌==◌, ◌||◌, nat_lt, List, [], ◌∷◌, drop, take}
use Rattle.std.specs.Prelude.{length}
use Rattle.std.specs.Prelude.{Option, Some, None, Result, Ok, Err, slice_index, if◌then◌else◌}
use Rattle.pe_image.specs.ExceptionDirectory.{function_entry}
use Rattle.pe_image.specs.Image.{Program, bytes_from}
use Rattle.pe_unwind.specs.UnwindErrors.{◌>>=◌, behind}
use Rattle.pe_unwind.specs.Registers.{register}
use Rattle.pe_unwind.specs.UnwindCodes.{unwind_codes}
use Rattle.pe_unwind.specs.declared.unwind_errors.EntryError.{EntryError}
use Rattle.pe_unwind.specs.declared.unwind_errors.EntryError.TheVariants.{ChainTooLong, CodesCut, InfoOutsideOfImage}
use Rattle.pe_unwind.specs.declared.unwind_errors.EntryError.TheVariants.{UnknownVersion}
use Rattle.pe_unwind.specs.declared.unwind_codes.UnwindCode.{UnwindCode}
use Rattle.pe_unwind.specs.declared.unwind_info.FrameRegister.{FrameRegister}

-- an unwind info: its version, the size of the prologue, the frame register if there is one, its codes, and the address
-- of the info to which it is chained, if any
pub record Info : Type 0 where
  pub version : ℕ
  pub prologue_size : ℕ
  pub frame : Option FrameRegister
  pub codes : List UnwindCode
  pub parent : Option ℕ

-- the frame register and its offset in bytes, by the byte that has both: the register in the low four bits (0 means
-- none), and the offset in units of 16 bytes in the high four bits
abbrev pub frame_of : ℕ → Option FrameRegister
frame_of byte =
    if byte % 16 == 0 then None else Some (record { register = register (byte % 16); offset = byte / 16 * 16 })

-- the bytes of the codes: after the four-byte header, two for each slot; the third byte has the number of slots
abbrev pub code_bytes : List ℕ → Result (List ℕ) EntryError
code_bytes bytes =
    if nat_lt (length bytes) (4 + 2 * slice_index bytes 2) then Err CodesCut
    else Ok (take (2 * slice_index bytes 2) (drop 4 bytes))

-- where the entry of the info's parent is: after the slots, padded to an even number of them
abbrev pub parent_at : ℕ → ℕ
parent_at slots = 4 + 2 * (slots + slots % 2)

-- the address of the info to which an info is chained, in the entry after its codes. The info is chained if its flags,
-- the high five bits of the first byte, have UNW_FLAG_CHAININFO, 4
abbrev pub parent_of : List ℕ → Result (Option ℕ) EntryError
parent_of bytes =
    if slice_index bytes 0 / 32 % 2 == 0 then Ok None else
    if nat_lt (length bytes) (parent_at (slice_index bytes 2) + 12) then Err InfoOutsideOfImage else
    Ok (Some (function_entry (drop (parent_at (slice_index bytes 2)) bytes)).info)

-- the unwind info at the start of these bytes: the version in the low three bits of the first byte, then the size of
-- the prologue, the number of slots, and the frame register
abbrev pub info_in : List ℕ → Result Info EntryError
info_in bytes =
    if nat_lt (length bytes) 4 then Err InfoOutsideOfImage else
    if (slice_index bytes 0 % 8 == 1) || (slice_index bytes 0 % 8 == 2) then (do
      slots ← code_bytes bytes
      codes ← unwind_codes (slice_index bytes 0 % 8) slots
      parent ← parent_of bytes
      Ok (record {
        version = slice_index bytes 0 % 8;
        prologue_size = slice_index bytes 1;
        frame = frame_of (slice_index bytes 3);
        codes = codes;
        parent = parent;
      }))
    else Err UnknownVersion

-- the address of the info of an entry. If the lowest bit is set (an indirect entry), the address without this bit is
-- that of another entry, whose info counts
abbrev pub info_address : Program → ℕ → Result ℕ EntryError
info_address program rva =
    if rva % 2 == 0 then Ok rva else
    if nat_lt (length (bytes_from program (rva - 1))) 12 then Err InfoOutsideOfImage else
    Ok (function_entry (bytes_from program (rva - 1))).info

-- the unwind info of an entry
unfoldable pub info_at : Program → ℕ → Result Info EntryError
info_at program rva = do
  address ← info_address program rva
  info_in (bytes_from program address)

-- the infos to which an info is chained, in order; an error if there are more than `left`
abbrev pub parents_up_to : ℕ → Program → Option ℕ → Result (List Info) EntryError
parents_up_to left program None = Ok []
parents_up_to zero program (Some rva) = Err ChainTooLong
parents_up_to (suc left) program (Some rva) = do
  info ← info_at program rva
  behind (info ∷ []) (parents_up_to left program info.parent)

-- the infos to which an info is chained; more than 32, as in a cycle, are refused
unfoldable pub parents_of : Program → Option ℕ → Result (List Info) EntryError
parents_of program parent = parents_up_to 32 program parent
