-- Epilogues in the order of their starts.
use Rattle.std.proofs.Common.{◌≡◌, ◌≤◌, ◌<◌, ◌+◌, ◌-◌, ◌*◌, ◌/◌, ◌%◌, ◌==◌, ℕ, zero, suc, Bool, true, false, cond}
use Rattle.std.proofs.Common.{List, [], ◌∷◌, ◌++◌, drop, length, Result, Ok, Err, refl, ap, ◌∙◌, sym, arith}
use Rattle.std.proofs.lemmas.Bool.Decides.{nat_tests}
use Rattle.std.specs.Option.{ok_or}
use Rattle.std.specs.Prelude.{◌&&◌, nat_le, nat_lt, not}
use Rattle.pe_image.specs.Image.{Program, bytes_from}
use Rattle.pe_image.specs.NumbersAt.{bytes_at}
use Rattle.pe_image.specs.declared.arm64_directory.Arm64Entry.{Arm64Entry}
use Rattle.pe_unwind_arm64.proofs.LineLemmas.{plain_rules}
use Rattle.pe_unwind_arm64.specs.Canonical.{prologue_part}
use Rattle.pe_unwind_arm64.specs.Epilogues.{AreOutside, InOrder, epilogue_with, epilogues_left, last_epilogue, last_with}
use Rattle.pe_unwind_arm64.specs.Epilogues.{own_count}
use Rattle.pe_unwind_arm64.specs.UnwindErrors.{◌>>=◌, behind}
use Rattle.pe_unwind_arm64.specs.Functions.{Function, body_rules, epilogue_rules, function_at, info_of, is_begun}
use Rattle.pe_unwind_arm64.specs.Functions.{length_at, rules_before, rules_by}
use Rattle.pe_unwind_arm64.specs.Packed.{packed_length, packed_of, saved_size}
use Rattle.pe_unwind_arm64.specs.PackedData.{as_codes, both_parts, ends_info, is_canonical, packed_info}
use Rattle.pe_unwind_arm64.specs.Rules.{rules_behind}
use Rattle.pe_unwind_arm64.specs.UnwindCodes.{codes_from, codes_in}
use Rattle.pe_unwind_arm64.specs.UnwindInfo.{Info, epilogues_by, first_scope, header_in, info_by, info_in, scope_bytes}
use Rattle.pe_unwind_arm64.specs.UnwindInfo.{scope_of, scopes_in, scopes_up_to}
use Rattle.pe_unwind_arm64.specs.declared.epilogues.Epilogue.{Epilogue}
use Rattle.pe_unwind_arm64.specs.declared.unwind_errors.EntryError.{EntryError}
use Rattle.pe_unwind_arm64.specs.declared.unwind_errors.EntryError.TheVariants.{CodesCut, EpilogueOutsideOfFunction}
use Rattle.pe_unwind_arm64.specs.declared.unwind_errors.EntryError.TheVariants.{EpiloguesOverlap, InfoOutsideOfImage, PackedFrame}
use Rattle.pe_unwind_arm64.specs.declared.unwind_errors.EntryError.TheVariants.{PackedRegisters, ReservedFlag}
use Rattle.pe_unwind_arm64.specs.declared.packed_data.Packed.{Packed}
use Rattle.pe_unwind_arm64.specs.declared.unwind_codes.UnwindCode.{UnwindCode}
use Rattle.pe_unwind_arm64.specs.declared.unwind_info.Header.{Header}

-- where something was computed from a value, the value was there
pub bind_ok : {A B : Type 0} (first : Result A EntryError) (next : A → Result B EntryError) (y : B)
    → (first >>= next) ≡ Ok y → (x : A) × (first ≡ Ok x) × (next x ≡ Ok y)
bind_ok (Ok x) next y is = (x, refl, is)
bind_ok (Err refusal) next y is = cc

-- an offset of an epilogue that may be refused
abbrev start_of : Result Epilogue EntryError → ℕ
start_of (Ok epilogue) = epilogue.start
start_of (Err refusal) = 0

abbrev end_of : Result Epilogue EntryError → ℕ
end_of (Ok epilogue) = epilogue.end
end_of (Err refusal) = 0

-- an epilogue begins at or after the end of the one before it, and isn't empty
epilogue_order : (reach length start index count : ℕ) (epilogue : Epilogue)
    → epilogue_with reach length start index count ≡ Ok epilogue
    → (reach ≤ epilogue.start) × (epilogue.start < epilogue.end)
epilogue_order reach length start index count epilogue is =
    by_test (nat_lt start reach) (nat_lt length (start + count + 1)) refl is
  where
    by_test : (early late : Bool) → nat_lt start reach ≡ early
        → cond early (Err EpiloguesOverlap) (cond late (Err EpilogueOutsideOfFunction)
        (Ok (record { start = start; end = start + count + 1; index = index }))) ≡ Ok epilogue
        → (reach ≤ epilogue.start) × (epilogue.start < epilogue.end)
    by_test true late early given = cc
    by_test false true early given = cc
    by_test false false early given =
        let starts : start ≡ epilogue.start = ap start_of given in
        let ends : start + count + 1 ≡ epilogue.end = ap end_of given in
        let from : reach ≤ start = grind (arith, nat_tests) in
        (omega arith, omega arith)

-- the items of a list that may be refused
abbrev items_of : Result (List Epilogue) EntryError → List Epilogue
items_of (Ok items) = items
items_of (Err refusal) = []

-- epilogues that scopes list are in order
scopes_order : (count length : ℕ) (codes : List UnwindCode) (reach : ℕ) (bytes : List ℕ) (epilogues : List Epilogue)
    → scopes_up_to count length codes reach bytes ≡ Ok epilogues → InOrder reach epilogues
scopes_order zero length codes reach bytes epilogues is =
    let none : [] ≡ epilogues = ap items_of is in
    rw (sym none) tt
scopes_order (suc count) length codes reach bytes epilogues is =
    let first = bind_ok (scope_of reach length codes (first_scope bytes))
    (λ one. behind (one ∷ []) (scopes_up_to count length codes one.end (drop 4 bytes))) epilogues is in
    let others = bind_ok (scopes_up_to count length codes first.0.end (drop 4 bytes))
    (λ rest. Ok ((first.0 ∷ []) ++ rest)) epilogues first.2 in
    let counted = bind_ok (own_count (codes_from (first_scope bytes / 0x400000) codes))
    (epilogue_with reach length (first_scope bytes % 0x40000) (first_scope bytes / 0x400000)) first.0 first.1 in
    let order = epilogue_order reach length (first_scope bytes % 0x40000) (first_scope bytes / 0x400000) counted.0
    first.0 counted.2 in
    let all : first.0 ∷ others.0 ≡ epilogues = ap items_of others.2 in
    rw (sym all) (
      order.0,
      (
        order.1,
        scopes_order count length codes first.0.end (drop 4 bytes) others.0 others.1,
      ),
    )

-- an epilogue that ends where its function does isn't empty
last_order : (length index count : ℕ) (epilogue : Epilogue) → last_with length index count ≡ Ok epilogue
    → epilogue.start < epilogue.end
last_order length index count epilogue is = by_test (nat_lt length (count + 1)) refl is
  where
    by_test : (late : Bool) → nat_lt length (count + 1) ≡ late
        → cond late (Err EpilogueOutsideOfFunction)
        (Ok (record { start = length - (count + 1); end = length; index = index })) ≡ Ok epilogue
        → epilogue.start < epilogue.end
    by_test true late given = cc
    by_test false late given =
        let starts : length - (count + 1) ≡ epilogue.start = ap start_of given in
        let ends : length ≡ epilogue.end = ap end_of given in
        let room : count + 1 ≤ length = grind (arith, nat_tests) in
        omega arith

-- all epilogues after one in order begin at or after its end
reach_of : (reach : ℕ) (before after : List Epilogue) (epilogue : Epilogue)
    → InOrder reach (before ++ epilogue ∷ after) → reach ≤ epilogue.start
reach_of reach [] after epilogue order = order.0
reach_of reach (first ∷ before) after epilogue order =
    let behind_first = reach_of first.end before after epilogue order.1.1 in
    omega (arith, behind_first, order.0, order.1.0)

-- where an offset is in an epilogue, this is the first of those that are left
pub first_left : (reach offset : ℕ) (before after : List Epilogue) (epilogue : Epilogue)
    → InOrder reach (before ++ epilogue ∷ after) → epilogue.start ≤ offset → offset < epilogue.end
    → epilogues_left offset (before ++ epilogue ∷ after) ≡ epilogue ∷ after
first_left reach offset [] after epilogue order from to =
    let not : nat_le epilogue.end offset ≡ false = grind (arith, nat_tests) in
    ap (λ t. cond t (epilogues_left offset after) (epilogue ∷ after)) not
first_left reach offset (first ∷ before) after epilogue order from to =
    let behind_first = reach_of first.end before after epilogue order.1.1 in
    let ended : nat_le first.end offset ≡ true = grind (arith, nat_tests, behind_first, from) in
    ap (λ t. cond t (epilogues_left offset (before ++ epilogue ∷ after)) (first ∷ before ++ epilogue ∷ after)) ended
    ∙ first_left first.end offset before after epilogue order.1.1 from to

-- after the prologue, the rules at an offset in an epilogue are that epilogue's
pub rules_within : (info : Info) (offset : ℕ) (before after : List Epilogue) (epilogue : Epilogue)
    → InOrder 0 info.epilogues → info.epilogues ≡ before ++ epilogue ∷ after → info.prologue ≤ offset
    → epilogue.start ≤ offset → offset < epilogue.end
    → rules_before info offset ≡ epilogue_rules info epilogue offset
unfolding rules_before
rules_within info offset before after epilogue order is behind_prologue from to =
    let left : epilogues_left offset info.epilogues ≡ epilogue ∷ after
    = ap (epilogues_left offset) is
    ∙ first_left 0 offset before after epilogue (rw is at order) from to in
    let behind : nat_lt offset info.prologue ≡ false = grind (arith, nat_tests) in
    let begun : nat_le epilogue.start offset ≡ true = grind (arith, nat_tests) in
    ap (λ t. cond t (rules_behind (info.prologue - offset) info.codes)
    (rules_by info (epilogues_left offset info.epilogues) offset)) behind
    ∙ ap (λ xs. rules_by info xs offset) left
    ∙ ap (λ t. cond t (epilogue_rules info epilogue offset) (body_rules info)) begun

-- where an offset is in no epilogue, the first of those that are left hasn't begun
none_begun : (offset : ℕ) (epilogues : List Epilogue) → AreOutside offset epilogues
    → is_begun (epilogues_left offset epilogues) offset ≡ false
none_begun offset [] outside = refl
none_begun offset (epilogue ∷ epilogues) outside =
    by_test (nat_le epilogue.end offset) refl (none_begun offset epilogues outside.1)
  where
    by_test : (t : Bool) → nat_le epilogue.end offset ≡ t
        → is_begun (epilogues_left offset epilogues) offset ≡ false
        → is_begun (cond t (epilogues_left offset epilogues) (epilogue ∷ epilogues)) offset ≡ false
    by_test true is others = others
    by_test false is others =
        let late : offset < epilogue.end = grind (arith, nat_tests) in
        let not_in = outside.0 late in
        grind (arith, nat_tests, not_in)

-- after the prologue, the rules at an offset in no epilogue are those of the body
pub rules_outside : (info : Info) (offset : ℕ) → info.prologue ≤ offset → AreOutside offset info.epilogues
    → rules_before info offset ≡ body_rules info
unfolding rules_before
rules_outside info offset behind_prologue outside =
    plain_rules info (epilogues_left offset info.epilogues) offset
    (is_plain_by (nat_le info.prologue offset) (is_begun (epilogues_left offset info.epilogues) offset)
    (grind (arith, nat_tests)) (none_begun offset info.epilogues outside))
  where
    is_plain_by : (behind begun : Bool) → behind ≡ true → begun ≡ false → (behind && not begun) ≡ true
    is_plain_by true true is isnt = sym isnt
    is_plain_by true false is isnt = refl
    is_plain_by false begun is isnt = cc

-- the epilogues of an info that may be refused
abbrev listed_by : Result Info EntryError → List Epilogue
listed_by (Ok info) = info.epilogues
listed_by (Err refusal) = []

-- one epilogue, at the function's end, is in order
one_order : (count index : ℕ) (codes : List UnwindCode) (epilogues : List Epilogue)
    → (last_epilogue count codes index >>= (λ one. Ok (one ∷ []))) ≡ Ok epilogues → InOrder 0 epilogues
one_order count index codes epilogues is =
    let one = bind_ok (last_epilogue count codes index) (λ one. Ok (one ∷ [])) epilogues is in
    let counted = bind_ok (own_count (codes_from index codes)) (last_with count index) one.0 one.1 in
    let alone : one.0 ∷ [] ≡ epilogues = ap items_of one.2 in
    rw (sym alone) (omega arith, (last_order count index counted.0 one.0 counted.2, tt))

-- the epilogue of packed data is in order
ends_order : (count index : ℕ) (codes : List UnwindCode) (info : Info) → ends_info count index codes ≡ Ok info
    → InOrder 0 info.epilogues
ends_order count index codes info is =
    let prologue = bind_ok (own_count codes) (λ prologue. last_epilogue count codes index >>= λ epilogue.
    Ok (record { codes = codes; prologue = prologue; epilogues = epilogue ∷ [] })) info is in
    let one = bind_ok (last_epilogue count codes index) (λ epilogue.
    Ok (record { codes = codes; prologue = prologue.0; epilogues = epilogue ∷ [] })) info prologue.2 in
    let counted = bind_ok (own_count (codes_from index codes)) (last_with count index) one.0 one.1 in
    let alone : one.0 ∷ [] ≡ info.epilogues = ap listed_by one.2 in
    rw (sym alone) (omega arith, (last_order count index counted.0 one.0 counted.2, tt))

-- the epilogues of an info are in order: those of a record of its own
by_header_order : (header : Header) (codes : List UnwindCode) (scopes : List ℕ) (epilogues : List Epilogue)
    → epilogues_by header codes scopes ≡ Ok epilogues → InOrder 0 epilogues
unfolding scopes_in
by_header_order header codes scopes epilogues is = by_test header.is_single is
  where
    by_test : (single : Bool)
        → cond single (last_epilogue header.length codes header.epilogues >>= (λ one. Ok (one ∷ [])))
        (scopes_in header.epilogues header.length codes scopes) ≡ Ok epilogues → InOrder 0 epilogues
    by_test true given = one_order header.length header.epilogues codes epilogues given
    by_test false given = scopes_order header.epilogues header.length codes 0 scopes epilogues given

by_parts_order : (header : Header) (scopes : List ℕ) (codes : List UnwindCode) (info : Info)
    → info_by header scopes codes ≡ Ok info → InOrder 0 info.epilogues
by_parts_order header scopes codes info is =
    let prologue = bind_ok (own_count codes) (λ prologue. epilogues_by header codes scopes >>= λ epilogues.
    Ok (record { codes = codes; prologue = prologue; epilogues = epilogues })) info is in
    let epilogues = bind_ok (epilogues_by header codes scopes) (λ epilogues.
    Ok (record { codes = codes; prologue = prologue.0; epilogues = epilogues })) info prologue.2 in
    let same : epilogues.0 ≡ info.epilogues = ap listed_by epilogues.2 in
    rw (sym same) (by_header_order header codes scopes epilogues.0 epilogues.1)

record_order : (bytes : List ℕ) (info : Info) → info_in bytes ≡ Ok info → InOrder 0 info.epilogues
record_order bytes info is =
    let header = bind_ok (header_in bytes) (λ header.
    ok_or (bytes_at bytes header.size (scope_bytes header)) InfoOutsideOfImage >>= λ scopes.
    ok_or (bytes_at bytes (header.size + scope_bytes header) (4 * header.words)) CodesCut >>= λ listed.
    info_by header scopes (codes_in listed)) info is in
    let h = header.0 in
    let scopes = bind_ok (ok_or (bytes_at bytes h.size (scope_bytes h)) InfoOutsideOfImage) (λ scopes.
    ok_or (bytes_at bytes (h.size + scope_bytes h) (4 * h.words)) CodesCut >>= λ listed.
    info_by h scopes (codes_in listed)) info header.2 in
    let listed = bind_ok (ok_or (bytes_at bytes (h.size + scope_bytes h) (4 * h.words)) CodesCut) (λ listed.
    info_by h scopes.0 (codes_in listed)) info scopes.2 in
    by_parts_order h scopes.0 (codes_in listed.0) info listed.2

-- the same for packed data
packed_order : (packed : Packed) (count : ℕ) (info : Info) → packed_info packed count ≡ Ok info
    → InOrder 0 info.epilogues
packed_order packed count info is =
    by_test (not (is_canonical packed)) (nat_lt packed.frame (saved_size packed)) packed.has_ends is
  where
    codes : List UnwindCode
    codes = as_codes (both_parts packed)

    by_test : (odd small ends : Bool)
        → cond odd (Err PackedRegisters) (cond small (Err PackedFrame)
        (cond ends (ends_info count (length (prologue_part packed) + 1) codes)
        (Ok (record { codes = codes; prologue = 0; epilogues = [] })))) ≡ Ok info → InOrder 0 info.epilogues
    by_test true small ends given = cc
    by_test false true ends given = cc
    by_test false false true given = ends_order count (length (prologue_part packed) + 1) codes info given
    by_test false false false given =
        let none : [] ≡ info.epilogues = ap listed_by given in
        rw (sym none) tt

-- the same for either
info_order : (program : Program) (unwind : ℕ) (info : Info) → info_of program unwind ≡ Ok info
    → InOrder 0 info.epilogues
info_order program unwind info is = by_test (unwind % 4 == 0) (unwind % 4 == 3) is
  where
    by_test : (apart reserved : Bool)
        → cond apart (info_in (bytes_from program unwind)) (cond reserved (Err ReservedFlag)
        (packed_info (packed_of unwind) (packed_length unwind))) ≡ Ok info → InOrder 0 info.epilogues
    by_test true reserved given = record_order (bytes_from program unwind) info given
    by_test false true given = cc
    by_test false false given = packed_order (packed_of unwind) (packed_length unwind) info given

-- the info of a function that may be refused
abbrev info_by_function : Result Function EntryError → List Epilogue
info_by_function (Ok function) = function.info.epilogues
info_by_function (Err refusal) = []

-- the epilogues of a function are in order
pub function_order : (program : Program) (reach : ℕ) (entry : Arm64Entry) (function : Function)
    → function_at program reach entry ≡ Ok function → InOrder 0 function.info.epilogues
function_order program reach entry function is =
    let count = bind_ok (length_at program reach entry) (λ count. info_of program entry.unwind >>= λ info.
    Ok (record { begin = entry.begin; length = count; info = info })) function is in
    let info = bind_ok (info_of program entry.unwind) (λ info.
    Ok (record { begin = entry.begin; length = count.0; info = info })) function count.2 in
    let same : info.0.epilogues ≡ function.info.epilogues = ap info_by_function info.2 in
    rw (sym same) (info_order program entry.unwind info.0 info.1)
