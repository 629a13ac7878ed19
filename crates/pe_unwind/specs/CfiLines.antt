-- The lines of a function's rules: one for each change.
use Rattle.std.specs.Prelude.{◌≡◌, ℕ, ◌<◌, nat_le, List, [], ◌∷◌, length, Option, Some, None}
use Rattle.std.specs.Prelude.{Result, Ok, Err, if◌then◌else◌}
use Rattle.std.specs.Option.{option_or}
use Rattle.pe_unwind.specs.Functions.{FunctionCode, rule_at}
use Rattle.pe_unwind.specs.declared.unwind_errors.EntryError.{EntryError}
use Rattle.pe_unwind.specs.declared.cfi_lines.CfiLine.{CfiLine}
use Rattle.pe_unwind.specs.declared.rules.Rules.{Rules}

-- the rules that a line shows at an offset: its own from its offset on
abbrev pub shown_by : CfiLine → ℕ → Option Rules
shown_by line offset = if nat_le line.offset offset then Some line.rules else None

-- the rules that lines show at an offset: those of the last line at or before the offset
abbrev pub shown : List CfiLine → ℕ → Option Rules
shown [] offset = None
shown (line ∷ lines) offset = option_or (shown lines offset) (shown_by line offset)

-- lines are sorted by offset, with no two at one offset, and all before an offset
abbrev pub Ascend : List CfiLine → ℕ → Type 0
Ascend [] before = Unit {0}
Ascend (line ∷ []) before = line.offset < before
Ascend (line ∷ next ∷ lines) before = (line.offset < next.offset) × Ascend (next ∷ lines) before

-- lines show the rules of a function at each of its offsets; a refused function has no lines
abbrev pub Show : List CfiLine → Result FunctionCode EntryError → Type 0
Show lines (Ok f) = (offset : ℕ) → offset < length f.code → shown lines offset ≡ Some (rule_at f.function f.code offset)
Show lines (Err refusal) = ⊥
