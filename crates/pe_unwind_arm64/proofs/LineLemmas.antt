-- Lines of rules, one more at a time.
use Rattle.std.proofs.Common.{◌≡◌, ◌≤◌, ◌<◌, ◌+◌, ◌-◌, ◌*◌, ◌/◌, ℕ, Bool, true, false, cond, List, [], ◌∷◌, ◌++◌}
use Rattle.std.proofs.Common.{Option, Some, None, refl, ap, ◌∙◌, sym, arith}
use Rattle.std.proofs.lemmas.Bool.Decides.{nat_tests}
use Rattle.std.specs.Option.{option_or}
use Rattle.std.specs.Prelude.{◌&&◌, nat_le, nat_lt, not}
use Rattle.pe_unwind_arm64.specs.CfiLines.{Ascend, shown, shown_by}
use Rattle.pe_unwind_arm64.specs.Epilogues.{epilogues_left}
use Rattle.pe_unwind_arm64.specs.Functions.{body_rules, epilogue_rules, is_begun, is_plain, rule_at, rules_among}
use Rattle.pe_unwind_arm64.specs.Functions.{rules_before, rules_by}
use Rattle.pe_unwind_arm64.specs.Rules.{rules_behind}
use Rattle.pe_unwind_arm64.specs.UnwindInfo.{Info}
use Rattle.pe_unwind_arm64.specs.declared.cfi_lines.CfiLine.{CfiLine}
use Rattle.pe_unwind_arm64.specs.declared.epilogues.Epilogue.{Epilogue}
use Rattle.pe_unwind_arm64.specs.declared.rules.Rules.{Rules}

-- of two, the first that is there, and then a third
option_or_or : {A : Type 0} (x y z : Option A) → option_or (option_or x y) z ≡ option_or x (option_or y z)
option_or_or None y z = refl
option_or_or (Some x) y z = refl

-- nothing, and then another
option_or_none : {A : Type 0} (x : Option A) → option_or x None ≡ x
option_or_none None = refl
option_or_none (Some x) = refl

-- with one line more that one shows, and before it the others
pub shown-append : (lines : List CfiLine) (line : CfiLine) (at : ℕ)
    → shown (lines ++ line ∷ []) at ≡ option_or (shown_by line at) (shown lines at)
shown-append [] line at = sym (option_or_none (shown_by line at))
shown-append (first ∷ lines) line at =
    ap (λ found. option_or found (shown_by first at)) (shown-append lines line at)
    ∙ option_or_or (shown_by line at) (shown lines at) (shown_by first at)

-- before its offset a line shows nothing
pub shown_before : (line : CfiLine) (at : ℕ) → at < line.offset → shown_by line at ≡ None
shown_before line at before = let not : nat_le line.offset at ≡ false = grind (arith, nat_tests) in rw not refl

-- from its offset on a line shows its rules
pub shown_behind : (line : CfiLine) (at : ℕ) → line.offset ≤ at → shown_by line at ≡ Some line.rules
shown_behind line at behind = let is : nat_le line.offset at ≡ true = grind (arith, nat_tests) in rw is refl

-- lines that are all before an offset are before a greater one
pub ascend_further : (lines : List CfiLine) (before after : ℕ) → before ≤ after → Ascend lines before
    → Ascend lines after
ascend_further [] before after up is = tt
ascend_further (line ∷ []) before after up is = omega arith
ascend_further (line ∷ next ∷ lines) before after up is =
    (is.0, ascend_further (next ∷ lines) before after up is.1)

-- one line more, at the offset that all lines are before
pub ascend-append : (lines : List CfiLine) (line : CfiLine) → Ascend lines line.offset
    → Ascend (lines ++ line ∷ []) (line.offset + 4)
ascend-append [] line is = omega arith
ascend-append (first ∷ []) line is = (is, omega arith)
ascend-append (first ∷ next ∷ lines) line is = (is.0, ascend-append (next ∷ lines) line is.1)

-- with one line more, the same is shown before its offset
pub same_before : (lines after : List CfiLine) (line : CfiLine) → after ≡ lines ++ line ∷ []
    → (at : ℕ) → at < line.offset → shown after at ≡ shown lines at
same_before lines after line pushed at before =
    ap (λ all. shown all at) pushed ∙ shown-append lines line at
    ∙ ap (λ found. option_or found (shown lines at)) (shown_before line at before)

-- with one line more, its rules are shown from its offset on
pub shown_on : (lines after : List CfiLine) (line : CfiLine) → after ≡ lines ++ line ∷ []
    → (at : ℕ) → line.offset ≤ at → shown after at ≡ Some line.rules
shown_on lines after line pushed at behind =
    ap (λ all. shown all at) pushed ∙ shown-append lines line at
    ∙ ap (λ found. option_or found (shown lines at)) (shown_behind line at behind)

-- both of two tests that hold together
and_both : (a b : Bool) → (a && b) ≡ true → (a ≡ true) × (b ≡ true)
and_both true b is = (refl, is)
and_both false b is = cc

-- what lines show up to an instruction they show up to the next one, if they show at its offsets what is to be shown
pub shows_four : (rule : ℕ → Rules) (lines after : List CfiLine) (instruction : ℕ)
    → ((at : ℕ) → at < 4 * instruction → shown lines at ≡ Some (rule at))
    → ((at : ℕ) → at < 4 * instruction → shown after at ≡ shown lines at)
    → ((at : ℕ) → 4 * instruction ≤ at → at < 4 * (instruction + 1) → shown after at ≡ Some (rule at))
    → (at : ℕ) → at < 4 * (instruction + 1) → shown after at ≡ Some (rule at)
shows_four rule lines after instruction shows before on at less = by_test (nat_lt at (4 * instruction)) refl
  where
    by_test : (t : Bool) → nat_lt at (4 * instruction) ≡ t → shown after at ≡ Some (rule at)
    by_test true is =
        let early : at < 4 * instruction = grind (arith, nat_tests) in
        before at early ∙ shows at early
    by_test false is =
        let late : 4 * instruction ≤ at = grind (arith, nat_tests) in
        on at late less

-- the epilogues that are left at a later offset are among those that are left
pub left_later : (now at : ℕ) (epilogues : List Epilogue) → now ≤ at
    → epilogues_left at (epilogues_left now epilogues) ≡ epilogues_left at epilogues
left_later now at [] later = refl
left_later now at (epilogue ∷ epilogues) later =
    by_test (nat_le epilogue.end now) refl (left_later now at epilogues later)
  where
    by_test : (t : Bool) → nat_le epilogue.end now ≡ t
        → epilogues_left at (epilogues_left now epilogues) ≡ epilogues_left at epilogues
        → epilogues_left at (cond t (epilogues_left now epilogues) (epilogue ∷ epilogues))
        ≡ epilogues_left at (epilogue ∷ epilogues)
    by_test true is others =
        let ended : nat_le epilogue.end at ≡ true = grind (arith, nat_tests) in
        others ∙ sym (ap (λ t. cond t (epilogues_left at epilogues) (epilogue ∷ epilogues)) ended)
    by_test false is others = refl

-- the rules before an instruction, by the epilogues that are left there
pub rules_left : (info : Info) (left next : List Epilogue) (instruction : ℕ)
    → epilogues_left instruction left ≡ epilogues_left instruction info.epilogues
    → next ≡ epilogues_left instruction left
    → rules_among info next instruction ≡ rules_before info instruction
unfolding rules_before
rules_left info left next instruction same is = ap (λ xs. rules_among info xs instruction) (is ∙ same)

-- the rules at an offset in an instruction are those before the instruction
pub rule_in : (info : Info) (instruction at : ℕ) → 4 * instruction ≤ at → at < 4 * (instruction + 1)
    → rules_before info instruction ≡ rule_at info at
rule_in info instruction at from to =
    let same : instruction ≡ at / 4 = omega arith in
    ap (rules_before info) same

-- where neither the prologue nor an epilogue is, the rules are those of the body
pub plain_rules : (info : Info) (left : List Epilogue) (instruction : ℕ) → is_plain info left instruction ≡ true
    → rules_among info left instruction ≡ body_rules info
plain_rules info left instruction is =
    let both = and_both (nat_le info.prologue instruction) (not (is_begun left instruction)) is in
    let behind : nat_lt instruction info.prologue ≡ false = grind (arith, nat_tests, both.0) in
    ap (λ t. cond t (rules_behind (info.prologue - instruction) info.codes) (rules_by info left instruction)) behind
    ∙ outside left both.1
  where
    outside : (epilogues : List Epilogue) → not (is_begun epilogues instruction) ≡ true
        → rules_by info epilogues instruction ≡ body_rules info
    outside [] none = refl
    outside (epilogue ∷ epilogues) none = by_test (nat_le epilogue.start instruction) none
      where
        by_test : (t : Bool) → not t ≡ true
            → cond t (epilogue_rules info epilogue instruction) (body_rules info) ≡ body_rules info
        by_test true not_begun = cc
        by_test false not_begun = refl

-- rules whose parts are the same are the same
pub same_rules : (a b : Rules) → a.cfa ≡ b.cfa → a.return_address ≡ b.return_address → a.saved ≡ b.saved → a ≡ b
same_rules a b cfa return_address saved =
    let first : a ≡ record a { cfa = b.cfa } = ap (λ x. record a { cfa = x }) cfa in
    let second : record a { cfa = b.cfa } ≡ record b { saved = a.saved }
    = ap (λ x. record a { cfa = b.cfa; return_address = x }) return_address in
    first ∙ second ∙ ap (λ x. record b { saved = x }) saved
