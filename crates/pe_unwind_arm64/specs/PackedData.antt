-- The unwind info of packed unwind data: the codes of the canonical prologue, and of the epilogue that belongs to it.
use Rattle.std.specs.Prelude.{ℕ, ◌+◌, ◌==◌, ◌&&◌, Bool, not, nat_le, nat_lt, List, [], ◌∷◌, ◌++◌, length}
use Rattle.std.specs.Prelude.{Result, Ok, Err, if◌then◌else◌}
use Rattle.pe_unwind_arm64.specs.Canonical.{epilogue_part, prologue_part}
use Rattle.pe_unwind_arm64.specs.Epilogues.{last_epilogue, own_count}
use Rattle.pe_unwind_arm64.specs.UnwindErrors.{◌>>=◌}
use Rattle.pe_unwind_arm64.specs.Packed.{is_saved, saved_size}
use Rattle.pe_unwind_arm64.specs.UnwindInfo.{Info}
use Rattle.pe_unwind_arm64.specs.declared.unwind_errors.EntryError.{EntryError}
use Rattle.pe_unwind_arm64.specs.declared.unwind_errors.EntryError.TheVariants.{PackedFrame, PackedRegisters}
use Rattle.pe_unwind_arm64.specs.declared.packed_data.Packed.{Packed}
use Rattle.pe_unwind_arm64.specs.declared.unwind_codes.Operation.{Operation}
use Rattle.pe_unwind_arm64.specs.declared.unwind_codes.Operation.TheVariants.{End}
use Rattle.pe_unwind_arm64.specs.declared.unwind_codes.UnwindCode.{UnwindCode}

-- the operations of the prologue and of the epilogue, each with an end
abbrev pub both_parts : Packed → List Operation
both_parts packed = prologue_part packed ++ (End ∷ (epilogue_part packed ++ (End ∷ [])))

-- operations as codes, with indices from `number` on
abbrev pub numbered_from : ℕ → List Operation → List UnwindCode
numbered_from number [] = []
numbered_from number (operation ∷ operations) =
    record { index = number; operation = operation } ∷ numbered_from (number + 1) operations

-- operations as codes
unfoldable pub as_codes : List Operation → List UnwindCode
as_codes operations = numbered_from 0 operations

-- whether there is a canonical prologue with this many stored registers: at most ten, and not x19 alone with x30
abbrev pub is_canonical : Packed → Bool
is_canonical packed =
    nat_le packed.registers 10 && not ((packed.registers == 1) && is_saved packed.link)

-- the unwind info of a function with a prologue and an epilogue, by its codes and the index of the epilogue's
abbrev pub ends_info : ℕ → ℕ → List UnwindCode → Result Info EntryError
ends_info count index codes = do
  prologue ← own_count codes
  epilogue ← last_epilogue count codes index
  Ok (record { codes = codes; prologue = prologue; epilogues = epilogue ∷ [] })

-- the unwind info, by its codes, of a function of `count` instructions, or of a part of one without prologue and
-- epilogue
abbrev pub packed_by : Packed → ℕ → List UnwindCode → Result Info EntryError
packed_by packed count codes =
    if packed.has_ends then ends_info count (length (prologue_part packed) + 1) codes
    else Ok (record { codes = codes; prologue = 0; epilogues = [] })

-- the unwind info of packed data, for a function of `count` instructions
abbrev pub packed_info : Packed → ℕ → Result Info EntryError
packed_info packed count =
    if not (is_canonical packed) then Err PackedRegisters else
    if nat_lt packed.frame (saved_size packed) then Err PackedFrame else
    packed_by packed count (as_codes (both_parts packed))
