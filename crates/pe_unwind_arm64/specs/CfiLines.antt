-- The lines of a function's rules: one for each change.
use Rattle.std.specs.Prelude.{◌≡◌, ℕ, ◌<◌, nat_le, List, [], ◌∷◌, Option, Some, None}
use Rattle.std.specs.Prelude.{Result, Ok, Err, if◌then◌else◌}
use Rattle.std.specs.Option.{option_or}
use Rattle.pe_unwind_arm64.specs.Functions.{Function, rule_at, size_of}
use Rattle.pe_unwind_arm64.specs.declared.unwind_errors.EntryError.{EntryError}
use Rattle.pe_unwind_arm64.specs.declared.cfi_lines.CfiLine.{CfiLine}
use Rattle.pe_unwind_arm64.specs.declared.rules.Rules.{Rules}

-- the rules that a line shows at an offset: its own from its offset on
abbrev pub shown_by : CfiLine → ℕ → Option Rules
shown_by line offset = if nat_le line.offset offset then Some line.rules else None

-- the rules that lines show at an offset: those of the last line at or before the offset
abbrev pub shown : List CfiLine → ℕ → Option Rules
shown [] offset = None
shown (line ∷ lines) offset = option_or (shown lines offset) (shown_by line offset)

-- lines are sorted by offset, with no two at one offset, and all before an offset
abbrev pub Ascend : List CfiLine → ℕ → Type 0
Ascend [] before = Unit {0}
Ascend (line ∷ []) before = line.offset < before
Ascend (line ∷ next ∷ lines) before = (line.offset < next.offset) × Ascend (next ∷ lines) before

-- lines ascend within a function; a refused function has none
abbrev pub AscendWithin : List CfiLine → Result Function EntryError → Type 0
AscendWithin lines (Ok function) = Ascend lines (size_of function)
AscendWithin lines (Err refusal) = ⊥

-- lines show the rules of a function at each of its offsets; a refused function has no lines
abbrev pub Show : List CfiLine → Result Function EntryError → Type 0
Show lines (Ok function) =
    (offset : ℕ) → offset < size_of function → shown lines offset ≡ Some (rule_at function.info offset)
Show lines (Err refusal) = ⊥
