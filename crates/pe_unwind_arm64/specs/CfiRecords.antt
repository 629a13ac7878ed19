-- The records of a function's rules, and a plain reader of them.
use Rattle.std.specs.Prelude.{ℕ, ◌+◌, ◌==◌, ◌&&◌, Bool, true, false, List, [], ◌∷◌, ◌++◌, map, replicate}
use Rattle.std.specs.Prelude.{slice_set}
use Rattle.std.specs.Prelude.{◌≡◌, ◌<◌, nat_le, length, Option, Some, None, Result, Ok, Err, if◌then◌else◌}
use Rattle.pe_unwind_arm64.specs.Registers.{base_number, index, register}
use Rattle.pe_unwind_arm64.specs.Functions.{Function, rule_at, size_of}
use Rattle.pe_unwind_arm64.specs.Rules.{less, stack_top}
use Rattle.pe_unwind_arm64.specs.declared.cfi_lines.CfiLine.{CfiLine}
use Rattle.pe_unwind_arm64.specs.declared.cfi_records.RegisterRule.{RegisterRule}
use Rattle.pe_unwind_arm64.specs.declared.cfi_records.RegisterRule.TheVariants.{At, BelowCfa, Unchanged}
use Rattle.pe_unwind_arm64.specs.declared.cfi_records.CfiItem.{CfiItem}
use Rattle.pe_unwind_arm64.specs.declared.cfi_records.CfiItem.TheVariants.{CfaItem, RegisterItem, ReturnItem}
use Rattle.pe_unwind_arm64.specs.declared.unwind_errors.EntryError.{EntryError}
use Rattle.pe_unwind_arm64.specs.declared.rules.RegisterOffset.{RegisterOffset}
use Rattle.pe_unwind_arm64.specs.declared.rules.Rules.{Rules}

-- whether two places are counted from the same register
abbrev pub same_base : RegisterOffset → RegisterOffset → Bool
same_base a b = base_number a.base == base_number b.base

-- whether two places are the same
abbrev pub same_place : RegisterOffset → RegisterOffset → Bool
same_place a b = same_base a b && (a.offset == b.offset)

-- whether a register is found in the same way
abbrev pub same_found : RegisterRule → RegisterRule → Bool
same_found Unchanged Unchanged = true
same_found (BelowCfa a) (BelowCfa b) = a == b
same_found (At a) (At b) = same_place a b
same_found a b = false

-- a place relative to the caller's stack pointer: below it, if both count from the same register; otherwise the place
-- itself
abbrev pub place_by : RegisterOffset → RegisterOffset → RegisterRule
place_by cfa place = if same_base cfa place then BelowCfa (less cfa.offset place.offset) else At place

-- how a register is found, by the place where it is saved; a register that isn't saved is unchanged
abbrev pub found_by : RegisterOffset → Option RegisterOffset → RegisterRule
found_by cfa None = Unchanged
found_by cfa (Some place) = place_by cfa place

-- the place in a record, relative to the caller's stack pointer; none for an unchanged register
abbrev pub place_known : RegisterOffset → RegisterRule → Option RegisterOffset
place_known cfa Unchanged = None
place_known cfa (BelowCfa bytes) = Some (record cfa { offset = less cfa.offset bytes })
place_known cfa (At place) = Some place

-- rules in the form of records: the caller's stack pointer, and relative to it the return address and each register
pub record Written : Type 0 where
  pub cfa : RegisterOffset
  pub return_address : RegisterRule
  pub registers : List RegisterRule

-- these rules in the form of records
abbrev pub written : Rules → Written
written rules = record {
  cfa = rules.cfa;
  return_address = found_by rules.cfa rules.return_address;
  registers = map (found_by rules.cfa) rules.saved;
}

-- an item if a rule changes, otherwise none
abbrev pub if_changed : Bool → CfiItem → List CfiItem
if_changed same item = if same then [] else item ∷ []

-- the items of the registers from a number on whose rules change
abbrev pub register_items : ℕ → List RegisterRule → List RegisterRule → List CfiItem
register_items number [] news = []
register_items number (old ∷ olds) [] = []
register_items number (old ∷ olds) (new ∷ news) =
    if_changed (same_found old new) (RegisterItem (register number) new) ++ register_items (number + 1) olds news

-- the items of a function's first record: the caller's stack pointer, the return address, and each register that is
-- saved
abbrev pub first_items : Written → List CfiItem
first_items new =
    CfaItem new.cfa ∷ ReturnItem new.return_address ∷ register_items 0 (replicate 12 Unchanged) new.registers

-- the items of a later record: each rule that changes
abbrev pub later_items : Written → Written → List CfiItem
later_items old new =
    if_changed (same_place old.cfa new.cfa) (CfaItem new.cfa)
    ++ (if_changed (same_found old.return_address new.return_address) (ReturnItem new.return_address)
    ++ register_items 0 old.registers new.registers)

-- the rules of a reader after an item, which replaces the old rule
abbrev pub item_read : CfiItem → Written → Written
item_read (CfaItem cfa) known = record known { cfa = cfa }
item_read (ReturnItem found) known = record known { return_address = found }
item_read (RegisterItem register found) known =
    record known { registers = slice_set known.registers (index register) found }

-- the rules of a reader after several items
abbrev pub items_read : List CfiItem → Written → Written
items_read [] known = known
items_read (item ∷ items) known = items_read items (item_read item known)

-- a record: its items, which apply from an offset of the function on
pub record CfiRecord : Type 0 where
  pub offset : ℕ
  pub items : List CfiItem

-- the records of the lines after a line with these rules: the changes from line to line
abbrev pub later_records : Rules → List CfiLine → List CfiRecord
later_records old [] = []
later_records old (line ∷ lines) = record {
  offset = line.offset;
  items = later_items (written old) (written line.rules);
} ∷ later_records line.rules lines

-- the records of a function's lines: all rules of the first line, then the changes from line to line
abbrev pub records : List CfiLine → List CfiRecord
records [] = []
records (line ∷ lines) =
    record { offset = line.offset; items = first_items (written line.rules) } ∷ later_records line.rules lines

-- the rules of a reader before any record: each register is unchanged
abbrev pub nothing_known : Written
nothing_known = record { cfa = stack_top; return_address = Unchanged; registers = replicate 12 Unchanged }

-- the rules of a reader at an offset, starting from these rules: each record at or before the offset is read, in order
abbrev pub known_behind : List CfiRecord → ℕ → Written → Written
known_behind [] offset known = known
known_behind (one ∷ others) offset known =
    known_behind others offset (if nat_le one.offset offset then items_read one.items known else known)

-- each line has the places of twelve registers
abbrev pub AreWhole : List CfiLine → Type 0
AreWhole [] = Unit {0}
AreWhole (line ∷ lines) = (length line.rules.saved ≡ 12) × AreWhole lines

-- a reader of the records finds the function's rules at each of its offsets
abbrev pub LetKnow : List CfiRecord → Result Function EntryError → Type 0
LetKnow all (Ok function) = (offset : ℕ) → offset < size_of function
    → known_behind all offset nothing_known ≡ written (rule_at function.info offset)
LetKnow all (Err refusal) = ⊥
