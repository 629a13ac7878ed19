-- What a reader of records knows after them.
use Rattle.std.proofs.Common.{◌≡◌, ◌<◌, ◌+◌, ℕ, zero, suc, Bool, true, false, cond, List, [], ◌∷◌, ◌++◌, length}
use Rattle.std.proofs.Common.{Option, Some, None, Result, Ok, Err, refl, ap, ◌∙◌, sym, length-append}
use Rattle.std.proofs.Common.{arith}
use Rattle.std.proofs.lemmas.Bool.Decides.{nat_tests}
use Rattle.std.proofs.lemmas.List.{length-map}
use Rattle.std.specs.Option.{option_or}
use Rattle.std.specs.Prelude.{◌==◌, ◌&&◌, nat_le, replicate, slice_set, unwrap_or}
use Rattle.pe_unwind_arm64.specs.CfiLines.{Ascend, Show, shown}
use Rattle.pe_unwind_arm64.specs.CfiRecords.{AreWhole, LetKnow, Written, first_items, if_changed, item_read, items_read}
use Rattle.pe_unwind_arm64.specs.CfiRecords.{found_by, known_behind, later_items, later_records, nothing_known, records}
use Rattle.pe_unwind_arm64.specs.CfiRecords.{register_items, same_base, same_found, same_place, written}
use Rattle.pe_unwind_arm64.specs.Functions.{Function, rule_at}
use Rattle.pe_unwind_arm64.specs.Registers.{base_number, index, register}
use Rattle.pe_unwind_arm64.specs.declared.cfi_lines.CfiLine.{CfiLine}
use Rattle.pe_unwind_arm64.specs.declared.cfi_records.RegisterRule.{RegisterRule}
use Rattle.pe_unwind_arm64.specs.declared.cfi_records.RegisterRule.TheVariants.{At, BelowCfa, Unchanged}
use Rattle.pe_unwind_arm64.specs.declared.cfi_records.CfiItem.{CfiItem}
use Rattle.pe_unwind_arm64.specs.declared.cfi_records.CfiItem.TheVariants.{CfaItem, RegisterItem, ReturnItem}
use Rattle.pe_unwind_arm64.specs.declared.unwind_errors.EntryError.{EntryError}
use Rattle.pe_unwind_arm64.specs.declared.registers.BaseRegister.{BaseRegister}
use Rattle.pe_unwind_arm64.specs.declared.registers.BaseRegister.TheVariants.{Fp, Sp}
use Rattle.pe_unwind_arm64.specs.declared.rules.RegisterOffset.{RegisterOffset}
use Rattle.pe_unwind_arm64.specs.declared.rules.Rules.{Rules}

-- the number of the register with a number below 12 is that number
index-register : (n : ℕ) → n < 12 → index (register n) ≡ n
index-register zero less = refl
index-register (suc zero) less = refl
index-register (suc (suc zero)) less = refl
index-register (suc (suc (suc zero))) less = refl
index-register (suc (suc (suc (suc zero)))) less = refl
index-register (suc (suc (suc (suc (suc zero))))) less = refl
index-register (suc (suc (suc (suc (suc (suc zero)))))) less = refl
index-register (suc (suc (suc (suc (suc (suc (suc zero))))))) less = refl
index-register (suc (suc (suc (suc (suc (suc (suc (suc zero)))))))) less = refl
index-register (suc (suc (suc (suc (suc (suc (suc (suc (suc zero))))))))) less = refl
index-register (suc (suc (suc (suc (suc (suc (suc (suc (suc (suc zero)))))))))) less = refl
index-register (suc (suc (suc (suc (suc (suc (suc (suc (suc (suc (suc zero))))))))))) less = refl
index-register (suc (suc (suc (suc (suc (suc (suc (suc (suc (suc (suc (suc n))))))))))))
    less = absurd (omega arith)

-- both of two tests that hold together
both : (a b : Bool) → (a && b) ≡ true → (a ≡ true) × (b ≡ true)
both true b is = (refl, is)
both false b is = cc

-- numbers, registers that places are counted from, places, and what is found, are the same if they are found to be
same_number : (a b : ℕ) → (a == b) ≡ true → a ≡ b
same_number a b is = grind (arith, nat_tests)

pub base_sound : (a b : BaseRegister) → (base_number a == base_number b) ≡ true → a ≡ b
base_sound Sp Sp is = refl
base_sound Sp Fp is = cc
base_sound Fp Sp is = cc
base_sound Fp Fp is = refl

place_sound : (a b : RegisterOffset) → same_place a b ≡ true → a ≡ b
place_sound a b is =
    let parts = both (same_base a b) (a.offset == b.offset) is in
    let first : a ≡ record b { offset = a.offset }
    = ap (λ x. record a { base = x }) (base_sound a.base b.base parts.0) in
    first ∙ ap (λ x. record b { offset = x }) (same_number a.offset b.offset parts.1)

found_sound : (a b : RegisterRule) → same_found a b ≡ true → a ≡ b
found_sound Unchanged Unchanged is = refl
found_sound Unchanged (BelowCfa b) is = cc
found_sound Unchanged (At b) is = cc
found_sound (BelowCfa a) Unchanged is = cc
found_sound (BelowCfa a) (BelowCfa b) is = ap BelowCfa (same_number a b is)
found_sound (BelowCfa a) (At b) is = cc
found_sound (At a) Unchanged is = cc
found_sound (At a) (BelowCfa b) is = cc
found_sound (At a) (At b) is = ap At (place_sound a b is)

-- items one after the other
items_read-append : (xs ys : List CfiItem) (known : Written)
    → items_read (xs ++ ys) known ≡ items_read ys (items_read xs known)
items_read-append [] ys known = refl
items_read-append (x ∷ xs) ys known = items_read-append xs ys (item_read x known)

-- a write at the place after the front of a list
set_behind : (front rest : List RegisterRule) (old new : RegisterRule)
    → slice_set (front ++ old ∷ rest) (length front) new ≡ front ++ new ∷ rest
set_behind [] rest old new = refl
set_behind (x ∷ front) rest old new = ap (λ xs. x ∷ xs) (set_behind front rest old new)

-- one register more after the front
one_more : (front rest : List RegisterRule) (x : RegisterRule) → front ++ x ∷ rest ≡ (front ++ x ∷ []) ++ rest
one_more [] rest x = refl
one_more (y ∷ front) rest x = ap (λ xs. y ∷ xs) (one_more front rest x)

-- after the items of the registers that change, all are known
registers_read : (n : ℕ) (known : Written) (front olds news : List RegisterRule) → length front ≡ n
    → length olds ≡ length news → n + length olds ≡ 12
    → items_read (register_items n olds news) (record known { registers = front ++ olds })
    ≡ record known { registers = front ++ news }
registers_read n known front [] [] at same sum = refl
registers_read n known front [] (new ∷ news) at same sum = absurd (omega arith)
registers_read n known front (old ∷ olds) [] at same sum = absurd (omega arith)
registers_read n known front (old ∷ olds) (new ∷ news) at same sum =
    by_test (same_found old new) refl
    (λ x. registers_read (n + 1) known (front ++ x ∷ []) olds news (omega (arith, length-append front (x ∷ []), at))
    (omega arith) (omega arith))
  where
    by_test : (t : Bool) → same_found old new ≡ t
        → ((x : RegisterRule) → items_read (register_items (n + 1) olds news)
        (record known { registers = (front ++ x ∷ []) ++ olds })
        ≡ record known { registers = (front ++ x ∷ []) ++ news })
        → items_read (if_changed t (RegisterItem (register n) new) ++ register_items (n + 1) olds news)
        (record known { registers = front ++ old ∷ olds })
        ≡ record known { registers = front ++ new ∷ news }
    by_test true is others =
        ap (λ xs. items_read (register_items (n + 1) olds news) (record known { registers = xs }))
        (one_more front olds old)
        ∙ others old ∙ ap (λ xs. record known { registers = xs }) (sym (one_more front news old))
        ∙ ap (λ x. record known { registers = front ++ x ∷ news }) (found_sound old new is)
    by_test false is others =
        let number : index (register n) ≡ length front = index-register n (omega arith) ∙ sym at in
        ap (λ xs. items_read (register_items (n + 1) olds news) (record known { registers = xs }))
        (ap (λ i. slice_set (front ++ old ∷ olds) i new) number ∙ set_behind front olds old new
        ∙ one_more front olds new)
        ∙ others new ∙ ap (λ xs. record known { registers = xs }) (sym (one_more front news new))

-- after the item of the caller's stack pointer, if it changes, it is known
cfa_read : (known : Written) (cfa : RegisterOffset)
    → items_read (if_changed (same_place known.cfa cfa) (CfaItem cfa)) known ≡ record known { cfa = cfa }
cfa_read known cfa = by_test (same_place known.cfa cfa) refl
  where
    by_test : (t : Bool) → same_place known.cfa cfa ≡ t
        → items_read (if_changed t (CfaItem cfa)) known ≡ record known { cfa = cfa }
    by_test true is = ap (λ x. record known { cfa = x }) (place_sound known.cfa cfa is)
    by_test false is = refl

-- after the item of the return address, if it changes, it is known
return_read : (known : Written) (found : RegisterRule)
    → items_read (if_changed (same_found known.return_address found) (ReturnItem found)) known
    ≡ record known { return_address = found }
return_read known found = by_test (same_found known.return_address found) refl
  where
    by_test : (t : Bool) → same_found known.return_address found ≡ t
        → items_read (if_changed t (ReturnItem found)) known ≡ record known { return_address = found }
    by_test true is = ap (λ x. record known { return_address = x }) (found_sound known.return_address found is)
    by_test false is = refl

-- after the items that change from one line to the next, what the next one says is known
later_read : (old new : Written) → length old.registers ≡ 12 → length new.registers ≡ 12
    → items_read (later_items old new) old ≡ new
later_read old new olds news =
    let cfas = if_changed (same_place old.cfa new.cfa) (CfaItem new.cfa) in
    let returns = if_changed (same_found old.return_address new.return_address) (ReturnItem new.return_address) in
    let registers = register_items 0 old.registers new.registers in
    let first : Written = record old { cfa = new.cfa } in
    let second : Written = record first { return_address = new.return_address } in
    items_read-append cfas (returns ++ registers) old
    ∙ ap (items_read (returns ++ registers)) (cfa_read old new.cfa)
    ∙ items_read-append returns registers first
    ∙ ap (items_read registers) (return_read first new.return_address)
    ∙ registers_read 0 second [] old.registers new.registers refl (olds ∙ sym news) (omega arith)

-- after the first items, what the line says is known
first_read : (new : Written) → length new.registers ≡ 12 → items_read (first_items new) nothing_known ≡ new
first_read new news =
    registers_read 0 (record new { registers = [] }) [] (replicate 12 Unchanged) new.registers refl (sym news) refl

-- what rules say has as many registers as the rules
written_length : (rules : Rules) → length (written rules).registers ≡ length rules.saved
written_length rules = length-map rules.saved (found_by rules.cfa)

-- lines after the first one ascend
ascend_rest : (line : CfiLine) (lines : List CfiLine) (before : ℕ) → Ascend (line ∷ lines) before → Ascend lines before
ascend_rest line [] before up = tt
ascend_rest line (next ∷ lines) before up = up.1

-- at an offset before a line nothing after it is read or shown
later_none : (line : CfiLine) (lines : List CfiLine) (before : ℕ) (rules : Rules) (offset : ℕ) (known : Written)
    → Ascend (line ∷ lines) before → offset < line.offset
    → (known_behind (later_records rules lines) offset known ≡ known) × (shown lines offset ≡ None)
later_none line [] before rules offset known up less = (refl, refl)
later_none line (next ∷ lines) before rules offset known up less =
    let behind : offset < next.offset = omega (arith, up.0) in
    let not_yet : nat_le next.offset offset ≡ false = grind (arith, nat_tests) in
    let others = later_none next lines before next.rules offset known up.1 behind in (
      ap (λ t. known_behind (later_records next.rules lines) offset
          (cond t (items_read (later_items (written rules) (written next.rules)) known) known)) not_yet ∙ others.0,
      ap (λ x. option_or x (cond (nat_le next.offset offset) (Some next.rules) None)) others.1
          ∙ ap (λ t. option_or None (cond t (Some next.rules) None)) not_yet,
    )

-- the later of two rules, else the earlier one
later_or : (x : Option Rules) (y z : Rules) → unwrap_or (option_or x (Some y)) z ≡ unwrap_or x y
later_or None y z = refl
later_or (Some x) y z = refl

-- after the records of later lines what the rules say is known that these lines show, or those before them
later_known : (lines : List CfiLine) (before : ℕ) (old : Rules) (offset : ℕ) → Ascend lines before → AreWhole lines
    → length old.saved ≡ 12
    → known_behind (later_records old lines) offset (written old) ≡ written (unwrap_or (shown lines offset) old)
later_known [] before old offset up whole olds = refl
later_known (line ∷ lines) before old offset up whole olds =
    by_test (nat_le line.offset offset) refl
    (later_known lines before line.rules offset (ascend_rest line lines before up) whole.1 whole.0)
  where
    by_test : (t : Bool) → nat_le line.offset offset ≡ t
        → known_behind (later_records line.rules lines) offset (written line.rules)
        ≡ written (unwrap_or (shown lines offset) line.rules)
        → known_behind (later_records line.rules lines) offset
        (cond t (items_read (later_items (written old) (written line.rules)) (written old)) (written old))
        ≡ written (unwrap_or (option_or (shown lines offset) (cond t (Some line.rules) None)) old)
    by_test true is others =
        ap (known_behind (later_records line.rules lines) offset)
        (later_read (written old) (written line.rules) (written_length old ∙ olds)
        (written_length line.rules ∙ whole.0))
        ∙ others ∙ ap written (sym (later_or (shown lines offset) line.rules old))
    by_test false is others =
        let less : offset < line.offset = grind (arith, nat_tests) in
        let none = later_none line lines before line.rules offset (written old) up less in
        none.0 ∙ ap written (sym (ap (λ x. unwrap_or (option_or x None) old) none.1))

-- the rules that are shown are the last ones
shown_last : (x : Option Rules) (y z : Rules) → option_or x (Some y) ≡ Some z → unwrap_or x y ≡ z
shown_last None y z is = cc
shown_last (Some x) y z is = cc

-- after the records of lines what the rules say is known that these lines show
pub records_known : (lines : List CfiLine) (before offset : ℕ) (rules : Rules) → Ascend lines before → AreWhole lines
    → shown lines offset ≡ Some rules → known_behind (records lines) offset nothing_known ≡ written rules
records_known [] before offset rules up whole is = cc
records_known (line ∷ lines) before offset rules up whole is = by_test (nat_le line.offset offset) refl is
  where
    by_test : (t : Bool) → nat_le line.offset offset ≡ t
        → option_or (shown lines offset) (cond t (Some line.rules) None) ≡ Some rules
        → known_behind (later_records line.rules lines) offset
        (cond t (items_read (first_items (written line.rules)) nothing_known) nothing_known) ≡ written rules
    by_test true test is =
        ap (known_behind (later_records line.rules lines) offset)
        (first_read (written line.rules) (written_length line.rules ∙ whole.0))
        ∙ later_known lines before line.rules offset (ascend_rest line lines before up) whole.1 whole.0
        ∙ ap written (shown_last (shown lines offset) line.rules rules is)
    by_test false test is =
        let less : offset < line.offset = grind (arith, nat_tests) in
        let none = later_none line lines before line.rules offset nothing_known up less in
        let nothing : option_or None None ≡ Some rules
        = sym (ap (λ x. option_or x None) none.1) ∙ is in
        cc

-- one whole line more
pub whole-append : (lines : List CfiLine) (line : CfiLine) → AreWhole lines → length line.rules.saved ≡ 12
    → AreWhole (lines ++ line ∷ [])
whole-append [] line is whole = (whole, tt)
whole-append (first ∷ lines) line is whole = (is.0, whole-append lines line is.1 whole)

-- where lines show a function's rules, records let a reader know them
pub let_know : (lines : List CfiLine) (before : ℕ) (found : Result Function EntryError) → Ascend lines before
    → AreWhole lines → Show lines found → LetKnow (records lines) found
let_know lines before (Ok function) up whole shows =
    λ offset less. records_known lines before offset (rule_at function.info offset) up whole (shows offset less)
let_know lines before (Err refusal) up whole shows = shows
