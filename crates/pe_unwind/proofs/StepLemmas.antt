-- Steps of a prologue: between the offsets of its codes its rules stay the same.
use Rattle.std.proofs.Common.{◌≡◌, ◌≤◌, ◌<◌, ℕ, Bool, true, false, List, [], ◌∷◌, Option, Some, None, min, drop, refl, ap}
use Rattle.std.proofs.Common.{sym, ◌∙◌, arith}
use Rattle.std.proofs.lemmas.Bool.Decides.{nat_tests}
use Rattle.std.specs.List.{list_any}
use Rattle.std.specs.Prelude.{◌==◌, ◌&&◌, ◌||◌, is_none, is_some, nat_le, nat_lt, unwrap_or, if◌then◌else◌}
use Rattle.pe_unwind.specs.Epilogues.{epilogue_rules}
use Rattle.pe_unwind.specs.Functions.{epilogue_at, may_leave, rule_at}
use Rattle.pe_unwind.specs.ListedEpilogues.{listed_rules}
use Rattle.pe_unwind.specs.Rules.{Function, at_first, body_rules, code_undone, codes_undone, is_set_frame, next_counted}
use Rattle.pe_unwind.specs.Rules.{next_step, parents_undone, prologue_offset, rules_of, sets_frame, sooner, start_once, undone}
use Rattle.pe_unwind.specs.declared.rules.RegisterOffset.{RegisterOffset}
use Rattle.pe_unwind.specs.declared.rules.Unwound.{Unwound}
use Rattle.pe_unwind.specs.declared.unwind_codes.UnwindCode.{UnwindCode}
use Rattle.pe_unwind.specs.declared.unwind_info.FrameRegister.{FrameRegister}

sooner_within : (offset from end : ℕ) → sooner offset from end ≤ end
sooner_within offset from end = grind (arith, nat_tests)

sooner_after : (offset from end : ℕ) → offset < end → offset < sooner offset from end
sooner_after offset from end some = grind (arith, nat_tests)

-- before the sooner offset a code counts as it does at the first one
sooner_counts : (offset from end at : ℕ) → offset ≤ at → at < sooner offset from end
    → nat_le from at ≡ nat_le from offset
sooner_counts offset from end at behind less = grind (arith, nat_tests)

next_within : (codes : List UnwindCode) (offset end : ℕ) → next_counted offset end codes ≤ end
next_within [] offset end = omega arith
next_within (code ∷ codes) offset end =
    let first = sooner_within offset code.offset end in
    let rest = next_within codes offset (sooner offset code.offset end) in
    omega (arith, first, rest)

next_after : (codes : List UnwindCode) (offset end : ℕ) → offset < end → offset < next_counted offset end codes
next_after [] offset end some = some
next_after (code ∷ codes) offset end some =
    next_after codes offset (sooner offset code.offset end) (sooner_after offset code.offset end some)

-- before the next offset the first code counts as it does at the first one
first_counts : (code : UnwindCode) (codes : List UnwindCode) (offset end at : ℕ) → offset ≤ at
    → at < next_counted offset (sooner offset code.offset end) codes
    → nat_le code.offset at ≡ nat_le code.offset offset
first_counts code codes offset end at behind less =
    let within = next_within codes offset (sooner offset code.offset end) in
    sooner_counts offset code.offset end at behind (omega (arith, within, less))

-- before the next offset codes undo what they do at the first one
same_undone : (frame : Option FrameRegister) (start : RegisterOffset) (codes : List UnwindCode) (offset end at : ℕ) (u : Unwound)
    → offset ≤ at → at < next_counted offset end codes
    → codes_undone frame start (Some at) codes u ≡ codes_undone frame start (Some offset) codes u
same_undone frame start [] offset end at u behind less = refl
same_undone frame start (code ∷ codes) offset end at u behind less =
    ap (λ test. codes_undone frame start (Some at) codes
    (if u.is_trapped then u else if test then undone frame start code.operation u else u))
    (first_counts code codes offset end at behind less)
    ∙ same_undone frame start codes offset (sooner offset code.offset end) at
    (code_undone frame start (Some offset) code u) behind less

-- before the next offset codes set the frame register as they do at the first one
same_sets : (codes : List UnwindCode) (offset end at : ℕ) → offset ≤ at → at < next_counted offset end codes
    → list_any (sets_frame (Some at)) codes ≡ list_any (sets_frame (Some offset)) codes
same_sets [] offset end at behind less = refl
same_sets (code ∷ codes) offset end at behind less =
    ap (λ test. (is_set_frame code.operation && test) || list_any (sets_frame (Some at)) codes)
    (first_counts code codes offset end at behind less)
    ∙ ap (λ rest. sets_frame (Some offset) code || rest)
    (same_sets codes offset (sooner offset code.offset end) at behind less)

-- before the next offset an info has the rules that it has at the first one
same_body : (function : Function) (offset end at : ℕ) → offset ≤ at → at < next_counted offset end function.own.codes
    → body_rules function (Some at) ≡ body_rules function (Some offset)
same_body function offset end at behind less =
    ap (λ set. rules_of (parents_undone function.parents (codes_undone function.own.frame
    (start_once function.own.frame (is_some function.own.parent || set)) (Some at) function.own.codes at_first)))
    (same_sets function.own.codes offset end at behind less)
    ∙ ap (λ u. rules_of (parents_undone function.parents u))
    (same_undone function.own.frame
    (start_once function.own.frame
    (is_some function.own.parent || list_any (sets_frame (Some offset)) function.own.codes))
    function.own.codes offset end at at_first behind less)

-- where neither of two tests holds, both fail
or_false : (a b : Bool) → (a || b) ≡ false → (a ≡ false) × (b ≡ false)
or_false true b is = cc
or_false false b is = (refl, is)

-- an offset that is given is in the prologue
given_in : (test : Bool) (offset : ℕ) → is_none (if test then Some offset else None) ≡ false → test ≡ true
given_in true offset is = refl
given_in false offset is = cc

less_by_test : (a b : ℕ) → nat_lt a b ≡ true → a < b
less_by_test a b is = grind (arith, nat_tests)

test_by_less : (a b : ℕ) → a < b → nat_lt a b ≡ true
test_by_less a b is = grind (arith, nat_tests)

-- where no epilogue can be, the offset is in the prologue, and the info isn't chained
in_prologue : (function : Function) (offset : ℕ) → may_leave function offset ≡ false
    → (offset < function.own.prologue_size) × (is_some function.own.parent ≡ false)
in_prologue function offset stays =
    let both = or_false (is_none (prologue_offset function.own offset)) (is_some function.own.parent) stays in
    let given = given_in (nat_lt offset function.own.prologue_size) offset both.0 in
    (less_by_test offset function.own.prologue_size given, both.1)

-- in a prologue in which no epilogue is, the rules are those of the codes that count
prologue_rule : (function : Function) (code : List ℕ) (at : ℕ) → (function.own.version == 2) ≡ false
    → is_some function.own.parent ≡ false → at < function.own.prologue_size
    → rule_at function code at ≡ body_rules function (Some at)
unfolding rule_at
prologue_rule function code at other root before =
    let given : prologue_offset function.own at ≡ Some at =
    ap (λ test. if test then Some at else None) (test_by_less at function.own.prologue_size before) in
    let stays : may_leave function at ≡ false =
    ap (λ found. is_none found || is_some function.own.parent) given ∙ root in
    let none : epilogue_at function code at ≡ None =
    ap (λ test. if test then listed_rules function at else
    if may_leave function at then epilogue_rules function (drop at code) else None) other
    ∙ ap (λ test. if test then epilogue_rules function (drop at code) else None) stays in
    ap (λ found. unwrap_or found (body_rules function (prologue_offset function.own at))) none
    ∙ ap (body_rules function) given

-- the next step of a prologue is after an offset in it
pub step_after : (function : Function) (offset size : ℕ) → may_leave function offset ≡ false → offset < size
    → offset < next_step function offset size
step_after function offset size stays less =
    let before = (in_prologue function offset stays).0 in
    next_after function.own.codes offset (min function.own.prologue_size size) (omega (arith, before, less))

-- the next step of a prologue is within the size
pub step_within : (function : Function) (offset size : ℕ) → next_step function offset size ≤ size
step_within function offset size =
    let within = next_within function.own.codes offset (min function.own.prologue_size size) in
    omega (arith, within)

-- up to the next step of a prologue the rules are the same
pub step_same : (function : Function) (code : List ℕ) (offset size at : ℕ) → (function.own.version == 2) ≡ false
    → may_leave function offset ≡ false → offset ≤ at → at < next_step function offset size
    → rule_at function code at ≡ rule_at function code offset
step_same function code offset size at other stays behind less =
    let root = (in_prologue function offset stays).1 in
    let within = next_within function.own.codes offset (min function.own.prologue_size size) in
    prologue_rule function code at other root (omega (arith, within, less))
    ∙ same_body function offset (min function.own.prologue_size size) at behind less
    ∙ sym (prologue_rule function code offset other root (in_prologue function offset stays).0)
