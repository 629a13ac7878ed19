-- Lists that are read item by item, up to a refusal.
use Rattle.std.proofs.Common.{◌≡◌, ℕ, zero, suc, ◌+◌, ◌-◌, ◌<◌, ◌==◌, true, false, List, [], ◌∷◌, ◌++◌, length, Some}
use Rattle.std.proofs.Common.{None}
use Rattle.std.proofs.Common.{Option, Result, Ok, Err, refl, ap, sym, ◌∙◌, append_assoc, append-nil, arith}
use Rattle.std.proofs.lemmas.Grind.{common_steps}
use Rattle.std.specs.Prelude.{is_some}
use Rattle.pe_image.specs.Image.{Program}
use Rattle.pe_unwind.specs.UnwindErrors.{Fails, behind}
use Rattle.pe_unwind.specs.UnwindCodes.{codes_up_to, first_code}
use Rattle.pe_unwind.specs.UnwindInfo.{Info, info_at, parents_of, parents_up_to}
use Rattle.pe_unwind.specs.declared.unwind_errors.EntryError.{EntryError}
use Rattle.pe_unwind.specs.declared.unwind_errors.EntryError.TheVariants.{ChainTooLong}
use Rattle.pe_unwind.specs.declared.unwind_errors.UnwindError.{UnwindError}
use Rattle.pe_unwind.specs.declared.unwind_errors.UnwindError.TheVariants.{OutOfMemory, Refused}
use Rattle.pe_unwind.specs.declared.unwind_codes.UnwindCode.{UnwindCode}

-- behind no items is what is read
pub behind_nothing : {A : Type 0} (read : Result (List A) EntryError) → behind [] read ≡ read
behind_nothing (Ok items) = refl
behind_nothing (Err refusal) = refl

-- behind items that were read in two steps is what is read behind the second
pub behind_behind : {A : Type 0} (xs ys : List A) (read : Result (List A) EntryError)
    → behind (xs ++ ys) read ≡ behind xs (behind ys read)
behind_behind xs ys (Ok items) = rw append_assoc refl
behind_behind xs ys (Err refusal) = refl

-- how many are left, where there is one
pub one_left : (count counter : ℕ) → counter < count → count - counter ≡ suc (count - (counter + 1))
one_left count counter some = omega arith

-- with the next code read, the codes are still those that were read and those that are left
pub one_code_more : (version count counter : ℕ) (rest next : List ℕ) (code : UnwindCode)
    (all : Result (List UnwindCode) EntryError) (before after : List UnwindCode) → counter < count → 0 < length rest
    → first_code version rest ≡ Ok (code, next) → after ≡ before ++ code ∷ []
    → all ≡ behind before (codes_up_to (count - counter) version rest)
    → all ≡ behind after (codes_up_to (count - (counter + 1)) version next)
one_code_more version count counter rest next code all before after some there is pushed was =
    let more : count - counter ≡ suc (count - (counter + 1)) = one_left count counter some in
    let full : (length rest == 0) ≡ false = grind (arith, common_steps) in
    let read : codes_up_to (suc (count - (counter + 1))) version rest
    ≡ behind (code ∷ []) (codes_up_to (count - (counter + 1)) version next) = simp (full, is) in
    was ∙ ap (λ n. behind before (codes_up_to n version rest)) more ∙ ap (behind before) read
    ∙ sym (behind_behind before (code ∷ []) (codes_up_to (count - (counter + 1)) version next))
    ∙ ap (λ codes. behind codes (codes_up_to (count - (counter + 1)) version next)) (sym pushed)

-- a code that is refused refuses all
pub refused_code : (version count counter : ℕ) (rest : List ℕ) (refusal : EntryError)
    (all : Result (List UnwindCode) EntryError) (before : List UnwindCode) → counter < count → 0 < length rest
    → first_code version rest ≡ Err refusal
    → all ≡ behind before (codes_up_to (count - counter) version rest)
    → all ≡ Err refusal
refused_code version count counter rest refusal all before some there is was =
    let more : count - counter ≡ suc (count - (counter + 1)) = one_left count counter some in
    let full : (length rest == 0) ≡ false = grind (arith, common_steps) in
    let read : codes_up_to (suc (count - (counter + 1))) version rest ≡ Err refusal = simp (full, is) in
    was ∙ ap (λ n. behind before (codes_up_to n version rest)) more ∙ ap (behind before) read

-- where no bytes are left, no codes are
pub no_codes_left : (count version : ℕ) (rest : List ℕ) → length rest ≡ 0 → codes_up_to count version rest ≡ Ok []
no_codes_left zero version rest none = refl
no_codes_left (suc count) version rest none = simp none

-- where no codes are left, those that were read are all
pub all_codes : (all : Result (List UnwindCode) EntryError) (before : List UnwindCode)
    (left : Result (List UnwindCode) EntryError) → left ≡ Ok [] → all ≡ behind before left → all ≡ Ok before
all_codes all before left none was =
    let nothing : behind before (Ok []) ≡ Ok before = rw append-nil refl in
    was ∙ ap (behind before) none ∙ nothing

-- a call that fails as an earlier one did, where a refusal of that one is a refusal of all
pub fails_onward : {A B : Type 0} (fault : UnwindError) (first : Result A EntryError) (all : Result B EntryError)
    → ((refusal : EntryError) → first ≡ Err refusal → all ≡ Err refusal) → Fails fault first → Fails fault all
fails_onward (Refused refusal) first all onward is = onward refusal is
fails_onward OutOfMemory first all onward is = tt

-- before any parent is read, all are left
pub unread_parents : (program : Program) (parent : Option ℕ)
    → parents_of program parent ≡ behind [] (parents_up_to (32 - 0) program parent)
unfolding parents_of
unread_parents program parent = rw behind_nothing refl

-- with the next parent read, the parents are still those that were read and those that are left
pub one_parent_more : (program : Program) (count counter rva : ℕ) (info : Info)
    (all : Result (List Info) EntryError) (before after : List Info) → counter < count
    → info_at program rva ≡ Ok info → after ≡ before ++ info ∷ []
    → all ≡ behind before (parents_up_to (count - counter) program (Some rva))
    → all ≡ behind after (parents_up_to (count - (counter + 1)) program info.parent)
one_parent_more program count counter rva info all before after some is pushed was =
    let more : count - counter ≡ suc (count - (counter + 1)) = one_left count counter some in
    let read : parents_up_to (suc (count - (counter + 1))) program (Some rva)
    ≡ behind (info ∷ []) (parents_up_to (count - (counter + 1)) program info.parent) = simp is in
    was ∙ ap (λ n. behind before (parents_up_to n program (Some rva))) more ∙ ap (behind before) read
    ∙ sym (behind_behind before (info ∷ []) (parents_up_to (count - (counter + 1)) program info.parent))
    ∙ ap (λ infos. behind infos (parents_up_to (count - (counter + 1)) program info.parent)) (sym pushed)

-- a parent that is refused refuses all
pub refused_parent : (program : Program) (count counter rva : ℕ) (refusal : EntryError)
    (all : Result (List Info) EntryError) (before : List Info) → counter < count → info_at program rva ≡ Err refusal
    → all ≡ behind before (parents_up_to (count - counter) program (Some rva)) → all ≡ Err refusal
refused_parent program count counter rva refusal all before some is was =
    let more : count - counter ≡ suc (count - (counter + 1)) = one_left count counter some in
    let read : parents_up_to (suc (count - (counter + 1))) program (Some rva) ≡ Err refusal = simp is in
    was ∙ ap (λ n. behind before (parents_up_to n program (Some rva))) more ∙ ap (behind before) read

-- where there is a parent that may not be read any more, there are too many
pub too_many_parents : (program : Program) (next : Option ℕ) (all : Result (List Info) EntryError) (before : List Info)
    → is_some next ≡ true → all ≡ behind before (parents_up_to 0 program next) → all ≡ Err ChainTooLong
too_many_parents program None all before some was = cc
too_many_parents program (Some rva) all before some was = was
