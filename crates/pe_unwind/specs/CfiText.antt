-- The text of a function's records, as Breakpad writes STACK CFI records.
use Rattle.std.specs.Prelude.{ℕ, ◌+◌, ◌-◌, ◌^◌, nat_lt, List, [], ◌∷◌, ◌++◌, codes, false, if◌then◌else◌}
use Rattle.std.specs.Prelude.{◌≡◌, Result}
use Rattle.std.specs.Fmt.{decimal, digits}
use Rattle.std.specs.List.{flat_map}
use Rattle.pe_image.specs.declared.exception_directory.FunctionEntry.{FunctionEntry}
use Rattle.pe_unwind.specs.CfiLines.{Ascend}
use Rattle.pe_unwind.specs.CfiRecords.{LetKnow, first_items, later_items, records, written}
use Rattle.pe_unwind.specs.Functions.{FunctionCode}
use Rattle.pe_unwind.specs.declared.cfi_lines.CfiLine.{CfiLine}
use Rattle.pe_unwind.specs.declared.cfi_records.RegisterRule.{RegisterRule}
use Rattle.pe_unwind.specs.declared.cfi_records.RegisterRule.TheVariants.{At, BelowCfa, Unchanged}
use Rattle.pe_unwind.specs.declared.cfi_records.CfiItem.{CfiItem}
use Rattle.pe_unwind.specs.declared.cfi_records.CfiItem.TheVariants.{CfaItem, RegisterItem, ReturnItem}
use Rattle.pe_unwind.specs.declared.unwind_errors.EntryError.{EntryError}
use Rattle.pe_unwind.specs.declared.registers.Register.{Register}
use Rattle.pe_unwind.specs.declared.registers.Register.TheVariants.{Rax, Rcx, Rdx, Rbx, Rsp, Rbp, Rsi, Rdi}
use Rattle.pe_unwind.specs.declared.registers.Register.TheVariants.{R8, R9, R10, R11, R12, R13, R14, R15}
use Rattle.pe_unwind.specs.declared.rules.Cfa.{Cfa}
use Rattle.pe_unwind.specs.declared.rules.Cfa.TheVariants.{Loaded, Sum}
use Rattle.pe_unwind.specs.declared.rules.RegisterOffset.{RegisterOffset}
use Rattle.pe_unwind.specs.declared.rules.Rules.{Rules}

-- a register as Breakpad writes it
abbrev pub name : Register → List ℕ
name Rax = codes "$rax"
name Rcx = codes "$rcx"
name Rdx = codes "$rdx"
name Rbx = codes "$rbx"
name Rsp = codes "$rsp"
name Rbp = codes "$rbp"
name Rsi = codes "$rsi"
name Rdi = codes "$rdi"
name R8 = codes "$r8"
name R9 = codes "$r9"
name R10 = codes "$r10"
name R11 = codes "$r11"
name R12 = codes "$r12"
name R13 = codes "$r13"
name R14 = codes "$r14"
name R15 = codes "$r15"

-- a number in hexadecimal digits
abbrev pub hexadecimal : ℕ → List ℕ
hexadecimal number = digits 16 false number

-- a 64-bit number in decimal digits; from 2 ^ 63 on it is negative
abbrev pub signed_decimal : ℕ → List ℕ
signed_decimal number =
    if nat_lt number (2 ^ 63) then decimal number else codes "-" ++ decimal (2 ^ 64 - number)

-- the address of a place
abbrev pub place_text : RegisterOffset → List ℕ
place_text place = name place.register ++ (codes " " ++ (signed_decimal place.offset ++ codes " +"))

-- how the caller's stack pointer is found
abbrev pub cfa_text : Cfa → List ℕ
cfa_text (Sum place) = place_text place
cfa_text (Loaded place) = place_text place ++ codes " ^"

-- how the return address or a register is found, by its own name
abbrev pub found_text : List ℕ → RegisterRule → List ℕ
found_text own Unchanged = own
found_text own (BelowCfa bytes) = codes ".cfa " ++ (signed_decimal bytes ++ codes " - ^")
found_text own (At place) = place_text place ++ codes " ^"

-- an item: a space, a name, a colon, and how the register is found
unfoldable pub item_text : CfiItem → List ℕ
item_text (CfaItem cfa) = codes " .cfa: " ++ cfa_text cfa
item_text (ReturnItem found) = codes " .ra: " ++ found_text (codes ".ra") found
item_text (RegisterItem register found) =
    codes " " ++ (name register ++ (codes ": " ++ found_text (name register) found))

-- the first record of a function: its address, its size, and its items
unfoldable pub first_text : ℕ → ℕ → Rules → List ℕ
first_text begin size rules =
    codes "STACK CFI INIT " ++ (hexadecimal begin ++ (codes " " ++ (hexadecimal size
    ++ (flat_map item_text (first_items (written rules)) ++ codes "\n"))))

-- a later record: its address, and its items
unfoldable pub later_text : ℕ → Rules → Rules → List ℕ
later_text address old new =
    codes "STACK CFI " ++ (hexadecimal address
    ++ (flat_map item_text (later_items (written old) (written new)) ++ codes "\n"))

-- the records of the lines after one with these rules
abbrev pub later_texts : ℕ → Rules → List CfiLine → List ℕ
later_texts begin old [] = []
later_texts begin old (line ∷ lines) =
    later_text (begin + line.offset) old line.rules ++ later_texts begin line.rules lines

-- the records of a function, by its start and end addresses and its lines
abbrev pub function_text : ℕ → ℕ → List CfiLine → List ℕ
function_text begin end [] = []
function_text begin end (line ∷ lines) =
    first_text begin (end - begin) line.rules ++ later_texts begin line.rules lines

-- a text ends with the records of an entry's function. Their lines ascend within the function, and a reader finds the
-- function's rules in them
abbrev pub ShowText : List ℕ → List ℕ → FunctionEntry → Result FunctionCode EntryError → Type 0
ShowText old new entry found = (lines : List CfiLine)
    × (new ≡ old ++ function_text entry.begin entry.end lines)
    × Ascend lines (entry.end - entry.begin)
    × LetKnow (records lines) found
