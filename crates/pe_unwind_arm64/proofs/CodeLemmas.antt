-- Codes, read one by one.
use Rattle.std.proofs.Common.{◌≡◌, ℕ, zero, suc, ◌+◌, ◌-◌, ◌<◌, ◌==◌, true, false, List, [], ◌∷◌, ◌++◌, drop, length}
use Rattle.std.proofs.Common.{slice_index, refl, ap, sym, ◌∙◌, append_assoc, append-nil, arith}
use Rattle.std.proofs.lemmas.Grind.{common_steps}
use Rattle.pe_unwind_arm64.specs.UnwindCodes.{code_size, codes_in, codes_up_to, is_next, next_operation, next_up_to}
use Rattle.pe_unwind_arm64.specs.UnwindCodes.{operation_behind, operation_of, own_operation}
use Rattle.pe_unwind_arm64.specs.declared.unwind_codes.UnwindCode.{UnwindCode}

-- before any save_next code is passed, all may be
pub all_nexts : (bytes : List ℕ) → next_operation bytes ≡ next_up_to 4 1 bytes
unfolding next_operation
all_nexts bytes = refl

-- with the next save_next code passed, the code says the same by what is left
pub one_next_more : (counter count : ℕ) (rest : List ℕ) → counter < 4 → is_next rest ≡ true
    → next_up_to (4 - counter) count rest ≡ next_up_to (4 - (counter + 1)) (count + 1) (drop 1 rest)
one_next_more counter count rest some is =
    let more : 4 - counter ≡ suc (4 - (counter + 1)) = omega arith in
    let read : next_up_to (suc (4 - (counter + 1))) count rest
    ≡ next_up_to (4 - (counter + 1)) (count + 1) (drop 1 rest) = simp is in
    ap (λ n. next_up_to n count rest) more ∙ read

-- where no save_next code is next, the code that is there counts
pub no_next_more : (left count : ℕ) (rest : List ℕ) → is_next rest ≡ false
    → next_up_to left count rest ≡ operation_behind count (own_operation rest)
no_next_more zero count rest is = refl
no_next_more (suc left) count rest is = simp is

-- where as many are passed as may be, the code that is there counts
pub nexts_end : (counter count : ℕ) (rest : List ℕ) → 4 - counter ≡ 0
    → next_up_to (4 - counter) count rest ≡ operation_behind count (own_operation rest)
nexts_end counter count rest end = ap (λ n. next_up_to n count rest) end

-- before any code is read, all are left
pub unread_codes : (bytes : List ℕ) → codes_in bytes ≡ codes_up_to (length bytes - 0) (length bytes) bytes
unfolding codes_in
unread_codes bytes =
    let all : length bytes - 0 ≡ length bytes = omega arith in
    rw all refl

-- with the next code read, the codes are still those that were read and those that are left
pub one_code_more : (count counter total : ℕ) (rest : List ℕ) (all before after : List UnwindCode) (code : UnwindCode)
    → counter < count → 0 < length rest
    → code ≡ record { index = total - length rest; operation = operation_of rest } → after ≡ before ++ code ∷ []
    → all ≡ before ++ codes_up_to (count - counter) total rest
    → all ≡ after ++ codes_up_to (count - (counter + 1)) total (drop (code_size (slice_index rest 0)) rest)
one_code_more count counter total rest all before after code some there is pushed was =
    let more : count - counter ≡ suc (count - (counter + 1)) = omega arith in
    let full : (length rest == 0) ≡ false = grind (arith, common_steps) in
    let left : List UnwindCode
    = codes_up_to (count - (counter + 1)) total (drop (code_size (slice_index rest 0)) rest) in
    let read : codes_up_to (suc (count - (counter + 1))) total rest ≡ code ∷ left = simp (full, is) in
    was ∙ ap (λ n. before ++ codes_up_to n total rest) more ∙ ap (λ codes. before ++ codes) read
    ∙ sym (append_assoc before (code ∷ []) left) ∙ ap (λ codes. codes ++ left) (sym pushed)

-- where no bytes are left, no codes are
pub no_codes_left : (count total : ℕ) (rest : List ℕ) → length rest ≡ 0 → codes_up_to count total rest ≡ []
no_codes_left zero total rest none = refl
no_codes_left (suc count) total rest none = simp none

-- where no codes are left, those that were read are all
pub all_codes : (all before left : List UnwindCode) → left ≡ [] → all ≡ before ++ left → before ≡ all
all_codes all before left none was =
    let nothing : before ++ [] ≡ before = append-nil before in
    sym (was ∙ ap (λ codes. before ++ codes) none ∙ nothing)
