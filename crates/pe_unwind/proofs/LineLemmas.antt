-- Lines of rules, one more at a time.
use Rattle.std.proofs.Common.{◌≡◌, ◌≤◌, ◌<◌, ◌+◌, ℕ, Bool, true, false, List, [], ◌∷◌, ◌++◌, Option, Some, None}
use Rattle.std.proofs.Common.{inl, inr, refl, ap, subst, ◌∙◌, sym, drop, arith}
use Rattle.std.proofs.lemmas.Bool.{cases_lt}
use Rattle.std.proofs.lemmas.Bool.Decides.{nat_tests}
use Rattle.std.specs.Option.{option_or}
use Rattle.std.specs.Prelude.{◌==◌, ◌&&◌, is_none, is_some, nat_le, nat_lt, unwrap_or, if◌then◌else◌}
use Rattle.pe_unwind.specs.CfiLines.{Ascend, shown, shown_by}
use Rattle.pe_unwind.specs.Epilogues.{epilogue_rules}
use Rattle.pe_unwind.specs.Functions.{epilogue_at, is_plain, may_leave, rule_at}
use Rattle.pe_unwind.specs.ListedEpilogues.{listed_rules}
use Rattle.pe_unwind.specs.Rules.{Function, body_rules, prologue_offset}
use Rattle.pe_unwind.specs.declared.cfi_lines.CfiLine.{CfiLine}
use Rattle.pe_unwind.specs.declared.rules.Rules.{Rules}

-- of two, the first that is there, and then a third
option_or_or : {A : Type 0} (x y z : Option A) → option_or (option_or x y) z ≡ option_or x (option_or y z)
option_or_or None y z = refl
option_or_or (Some x) y z = refl

-- nothing, and then another
option_or_none : {A : Type 0} (x : Option A) → option_or x None ≡ x
option_or_none None = refl
option_or_none (Some x) = refl

-- with one line more that one shows, and before it the others
pub shown-append : (lines : List CfiLine) (line : CfiLine) (at : ℕ)
    → shown (lines ++ line ∷ []) at ≡ option_or (shown_by line at) (shown lines at)
shown-append [] line at = sym (option_or_none (shown_by line at))
shown-append (first ∷ lines) line at =
    ap (λ found. option_or found (shown_by first at)) (shown-append lines line at)
    ∙ option_or_or (shown_by line at) (shown lines at) (shown_by first at)

-- before its offset a line shows nothing
pub shown_before : (line : CfiLine) (at : ℕ) → at < line.offset → shown_by line at ≡ None
shown_before line at before = let not : nat_le line.offset at ≡ false = grind (arith, nat_tests) in rw not refl

-- from its offset on a line shows its rules
pub shown_behind : (line : CfiLine) (at : ℕ) → line.offset ≤ at → shown_by line at ≡ Some line.rules
shown_behind line at behind = let is : nat_le line.offset at ≡ true = grind (arith, nat_tests) in rw is refl

-- lines that are all before an offset are before a greater one
pub ascend_further : (lines : List CfiLine) (before after : ℕ) → before ≤ after → Ascend lines before
    → Ascend lines after
ascend_further [] before after up is = tt
ascend_further (line ∷ []) before after up is = omega arith
ascend_further (line ∷ next ∷ lines) before after up is =
    (is.0, ascend_further (next ∷ lines) before after up is.1)

-- one line more, at the offset that all lines are before
pub ascend-append : (lines : List CfiLine) (line : CfiLine) → Ascend lines line.offset
    → Ascend (lines ++ line ∷ []) (line.offset + 1)
ascend-append [] line is = omega arith
ascend-append (first ∷ []) line is = (is, omega arith)
ascend-append (first ∷ next ∷ lines) line is = (is.0, ascend-append (next ∷ lines) line is.1)

-- with one line more, the same is shown before its offset
pub same_before : (lines after : List CfiLine) (line : CfiLine) → after ≡ lines ++ line ∷ []
    → (at : ℕ) → at < line.offset → shown after at ≡ shown lines at
same_before lines after line pushed at before =
    ap (λ all. shown all at) pushed ∙ shown-append lines line at
    ∙ ap (λ found. option_or found (shown lines at)) (shown_before line at before)

-- with one line more, its rules are shown from its offset on
pub shown_on : (lines after : List CfiLine) (line : CfiLine) → after ≡ lines ++ line ∷ []
    → (at : ℕ) → line.offset ≤ at → shown after at ≡ Some line.rules
shown_on lines after line pushed at behind =
    ap (λ all. shown all at) pushed ∙ shown-append lines line at
    ∙ ap (λ found. option_or found (shown lines at)) (shown_behind line at behind)

-- what lines show up to an offset they show up to an end, if they show there rules that hold up to this end
pub shows_run : (rule : ℕ → Rules) (lines after : List CfiLine) (offset end : ℕ) (rules : Rules)
    → ((at : ℕ) → at < offset → shown lines at ≡ Some (rule at))
    → ((at : ℕ) → at < offset → shown after at ≡ shown lines at)
    → ((at : ℕ) → offset ≤ at → shown after at ≡ Some rules)
    → ((at : ℕ) → offset ≤ at → at < end → rule at ≡ rules)
    → (at : ℕ) → at < end → shown after at ≡ Some (rule at)
shows_run rule lines after offset end rules shows before is same at less = elim (cases_lt at offset) [
  | inl early ↦ before at early ∙ shows at early
  | inr from ↦ is at from ∙ ap Some (sym (same at from less))
]

-- both of two tests that hold together
and_both : (a b : Bool) → (a && b) ≡ true → (a ≡ true) × (b ≡ true)
and_both true b is = (refl, is)
and_both false b is = cc

-- what is missing
is_missing : {A : Type 0} (x : Option A) → is_none x ≡ true → x ≡ None
is_missing None is = refl
is_missing (Some x) is = cc

-- where a function's rules are those of its body, they are
pub plain_rule : (function : Function) (code : List ℕ) (offset : ℕ) → is_plain function code offset ≡ true
    → rule_at function code offset ≡ body_rules function None
unfolding rule_at
plain_rule function code offset is =
    let both = and_both (is_none (prologue_offset function.own offset))
    (is_none (epilogue_at function code offset)) is in
    ap (λ found. unwrap_or found (body_rules function (prologue_offset function.own offset)))
    (is_missing (epilogue_at function code offset) both.1)
    ∙ ap (body_rules function) (is_missing (prologue_offset function.own offset) both.0)

-- a test that tells whether an offset is in the prologue fails where none is given
behind_prologue : (test : Bool) (offset : ℕ) → is_none (if test then Some offset else None) ≡ true → test ≡ false
behind_prologue true offset is = cc
behind_prologue false offset is = refl

-- two tests that hold hold together
both_hold : (a b : Bool) → a ≡ true → b ≡ true → (a && b) ≡ true
both_hold true b first second = second
both_hold false b first second = cc

-- what isn't there is missing
not_there : {A : Type 0} (x : Option A) → is_some x ≡ false → is_none x ≡ true
not_there None none = refl
not_there (Some x) none = cc

-- an offset after one with the rules of the body has them too, unless it is in an epilogue
stays_plain : (function : Function) (code : List ℕ) (offset at : ℕ) → is_plain function code offset ≡ true
    → offset ≤ at → is_some (epilogue_at function code at) ≡ false → is_plain function code at ≡ true
stays_plain function code offset at plain behind none =
    let both = and_both (is_none (prologue_offset function.own offset))
    (is_none (epilogue_at function code offset)) plain in
    let first : nat_lt offset function.own.prologue_size ≡ false
    = behind_prologue (nat_lt offset function.own.prologue_size) offset both.0 in
    let later : nat_lt at function.own.prologue_size ≡ false = grind (arith, nat_tests) in
    both_hold (is_none (prologue_offset function.own at)) (is_none (epilogue_at function code at))
    (ap (λ test. is_none (if test then Some at else None)) later) (not_there (epilogue_at function code at) none)

-- the rules of the body hold up to an end, if no epilogue goes on before it
plain_run : (function : Function) (code : List ℕ) (offset end : ℕ) → is_plain function code offset ≡ true
    → ((at : ℕ) → at < end → offset + 1 ≤ at → is_some (epilogue_at function code at) ≡ false)
    → (at : ℕ) → at < end → offset ≤ at → is_plain function code at ≡ true
plain_run function code offset end plain none at less behind = elim (cases_lt offset at) [
  | inl more ↦ stays_plain function code offset at plain behind (none at less (omega arith))
  | inr here ↦ let same : offset ≡ at = omega arith in subst (λ n. is_plain function code n ≡ true) same plain
]

-- an offset is in no epilogue of an info of version 2, if none is listed there
none_listed : (function : Function) (code : List ℕ) (at : ℕ) → (function.own.version == 2) ≡ true
    → is_some (listed_rules function at) ≡ false → is_some (epilogue_at function code at) ≡ false
none_listed function code at two none =
    ap (λ test. is_some (if test then listed_rules function at else
    if may_leave function at then epilogue_rules function (drop at code) else None)) two
    ∙ none

-- where nothing is there, nothing is there under a test
none_under : (test : Bool) (found : Option Rules) → is_some found ≡ false
    → is_some (if test then found else None) ≡ false
none_under true found none = none
none_under false found none = refl

-- an offset is in no epilogue of an info of another version, if none goes on by the code there
none_by_code : (function : Function) (code : List ℕ) (at : ℕ) → (function.own.version == 2) ≡ false
    → is_some (epilogue_rules function (drop at code)) ≡ false → is_some (epilogue_at function code at) ≡ false
none_by_code function code at other none =
    ap (λ test. is_some (if test then listed_rules function at else
    if may_leave function at then epilogue_rules function (drop at code) else None)) other
    ∙ none_under (may_leave function at) (epilogue_rules function (drop at code)) none

-- the rules of the body of an info of version 2 hold up to an end, if no epilogue is listed before it
pub plain_listed : (function : Function) (code : List ℕ) (offset end : ℕ)
    → (function.own.version == 2) ≡ true
    → is_plain function code offset ≡ true
    → ((at : ℕ) → at < end → offset + 1 ≤ at → is_some (listed_rules function at) ≡ false)
    → (at : ℕ) → at < end → offset ≤ at → is_plain function code at ≡ true
plain_listed function code offset end two plain none =
    plain_run function code offset end plain (λ at less from. none_listed function code at two (none at less from))

-- the rules of the body of another info hold up to an end, if no epilogue goes on by the code before it
pub plain_by_code : (function : Function) (code : List ℕ) (offset end : ℕ)
    → (function.own.version == 2) ≡ false
    → is_plain function code offset ≡ true
    → ((at : ℕ) → at < end → offset + 1 ≤ at → is_some (epilogue_rules function (drop at code)) ≡ false)
    → (at : ℕ) → at < end → offset ≤ at → is_plain function code at ≡ true
plain_by_code function code offset end other plain none =
    plain_run function code offset end plain (λ at less from. none_by_code function code at other (none at less from))

-- offsets with the rules of the body have the same rules
pub same_plain : (function : Function) (code : List ℕ) (offset at : ℕ) → is_plain function code offset ≡ true
    → is_plain function code at ≡ true → rule_at function code at ≡ rule_at function code offset
same_plain function code offset at here there =
    plain_rule function code at there ∙ sym (plain_rule function code offset here)

-- rules whose parts are the same are the same
pub same_rules : (a b : Rules) → a.cfa ≡ b.cfa → a.return_address ≡ b.return_address → a.saved ≡ b.saved → a ≡ b
same_rules a b cfa return_address saved =
    let first : a ≡ record a { cfa = b.cfa } = ap (λ x. record a { cfa = x }) cfa in
    let second : record a { cfa = b.cfa } ≡ record b { saved = a.saved }
    = ap (λ x. record a { cfa = b.cfa; return_address = x }) return_address in
    first ∙ second ∙ ap (λ x. record b { saved = x }) saved
