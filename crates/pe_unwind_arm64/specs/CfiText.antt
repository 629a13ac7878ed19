-- The text of a function's records, as Breakpad writes STACK CFI records.
use Rattle.std.specs.Prelude.{ℕ, ◌+◌, ◌-◌, ◌^◌, nat_lt, List, [], ◌∷◌, ◌++◌, codes, false, if◌then◌else◌}
use Rattle.std.specs.Prelude.{◌≡◌, Result, Ok, Err}
use Rattle.std.specs.Fmt.{decimal, digits}
use Rattle.std.specs.List.{flat_map}
use Rattle.pe_unwind_arm64.specs.CfiLines.{Ascend}
use Rattle.pe_unwind_arm64.specs.CfiRecords.{LetKnow, first_items, later_items, records, written}
use Rattle.pe_unwind_arm64.specs.Functions.{Function, size_of}
use Rattle.pe_unwind_arm64.specs.declared.cfi_lines.CfiLine.{CfiLine}
use Rattle.pe_unwind_arm64.specs.declared.cfi_records.RegisterRule.{RegisterRule}
use Rattle.pe_unwind_arm64.specs.declared.cfi_records.RegisterRule.TheVariants.{At, BelowCfa, Unchanged}
use Rattle.pe_unwind_arm64.specs.declared.cfi_records.CfiItem.{CfiItem}
use Rattle.pe_unwind_arm64.specs.declared.cfi_records.CfiItem.TheVariants.{CfaItem, RegisterItem, ReturnItem}
use Rattle.pe_unwind_arm64.specs.declared.unwind_errors.EntryError.{EntryError}
use Rattle.pe_unwind_arm64.specs.declared.registers.BaseRegister.{BaseRegister}
use Rattle.pe_unwind_arm64.specs.declared.registers.BaseRegister.TheVariants.{Fp, Sp}
use Rattle.pe_unwind_arm64.specs.declared.registers.Register.{Register}
use Rattle.pe_unwind_arm64.specs.declared.registers.Register.TheVariants.{X19, X20, X21, X22, X23, X24, X25, X26}
use Rattle.pe_unwind_arm64.specs.declared.registers.Register.TheVariants.{X27, X28, X29, X30}
use Rattle.pe_unwind_arm64.specs.declared.rules.RegisterOffset.{RegisterOffset}
use Rattle.pe_unwind_arm64.specs.declared.rules.Rules.{Rules}

-- a register as Breakpad writes it
abbrev pub name : Register → List ℕ
name X19 = codes "x19"
name X20 = codes "x20"
name X21 = codes "x21"
name X22 = codes "x22"
name X23 = codes "x23"
name X24 = codes "x24"
name X25 = codes "x25"
name X26 = codes "x26"
name X27 = codes "x27"
name X28 = codes "x28"
name X29 = codes "x29"
name X30 = codes "x30"

-- a base register of places, as Breakpad writes it
abbrev pub base_name : BaseRegister → List ℕ
base_name Sp = codes "sp"
base_name Fp = codes "x29"

-- a number in hexadecimal digits
abbrev pub hexadecimal : ℕ → List ℕ
hexadecimal number = digits 16 false number

-- a 64-bit number in decimal digits; from 2 ^ 63 on it is negative
abbrev pub signed_decimal : ℕ → List ℕ
signed_decimal number =
    if nat_lt number (2 ^ 63) then decimal number else codes "-" ++ decimal (2 ^ 64 - number)

-- the address of a place
abbrev pub place_text : RegisterOffset → List ℕ
place_text place = base_name place.base ++ (codes " " ++ (signed_decimal place.offset ++ codes " +"))

-- how a register is found, by its own name; the return address, too, which is x30
abbrev pub found_text : List ℕ → RegisterRule → List ℕ
found_text own Unchanged = own
found_text own (BelowCfa bytes) = codes ".cfa " ++ (signed_decimal bytes ++ codes " - ^")
found_text own (At place) = place_text place ++ codes " ^"

-- an item: a space, a name, a colon, and how the register is found
unfoldable pub item_text : CfiItem → List ℕ
item_text (CfaItem cfa) = codes " .cfa: " ++ place_text cfa
item_text (ReturnItem found) = codes " .ra: " ++ found_text (name X30) found
item_text (RegisterItem register found) =
    codes " " ++ (name register ++ (codes ": " ++ found_text (name register) found))

-- the first record of a function: its address, its size, and its items
unfoldable pub first_text : ℕ → ℕ → Rules → List ℕ
first_text begin size rules =
    codes "STACK CFI INIT " ++ (hexadecimal begin ++ (codes " " ++ (hexadecimal size
    ++ (flat_map item_text (first_items (written rules)) ++ codes "\n"))))

-- a later record: its address, and its items
unfoldable pub later_text : ℕ → Rules → Rules → List ℕ
later_text address old new =
    codes "STACK CFI " ++ (hexadecimal address
    ++ (flat_map item_text (later_items (written old) (written new)) ++ codes "\n"))

-- the records of the lines after one with these rules
abbrev pub later_texts : ℕ → Rules → List CfiLine → List ℕ
later_texts begin old [] = []
later_texts begin old (line ∷ lines) =
    later_text (begin + line.offset) old line.rules ++ later_texts begin line.rules lines

-- the records of a function, by its start address, its size in bytes, and its lines
abbrev pub function_text : ℕ → ℕ → List CfiLine → List ℕ
function_text begin size [] = []
function_text begin size (line ∷ lines) =
    first_text begin size line.rules ++ later_texts begin line.rules lines

-- a text ends with the records of a function. Their lines ascend within the function, and a reader finds the function's
-- rules in them
abbrev pub ShowText : List ℕ → List ℕ → Result Function EntryError → Type 0
ShowText old new (Ok function) = (lines : List CfiLine)
    × (new ≡ old ++ function_text function.begin (size_of function) lines)
    × Ascend lines (size_of function)
    × LetKnow (records lines) (Ok function)
ShowText old new (Err refusal) = ⊥
