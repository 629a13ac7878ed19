-- Lists that are read item by item, up to a refusal.
use Rattle.std.proofs.Common.{◌≡◌, ℕ, suc, ◌+◌, ◌-◌, ◌<◌, List, [], ◌∷◌, ◌++◌, drop}
use Rattle.std.proofs.Common.{Result, Ok, Err, refl, ap, sym, ◌∙◌, append_assoc, append-nil, arith}
use Rattle.pe_unwind_arm64.specs.UnwindErrors.{behind}
use Rattle.pe_unwind_arm64.specs.UnwindInfo.{first_scope, scope_of, scopes_in, scopes_up_to}
use Rattle.pe_unwind_arm64.specs.declared.epilogues.Epilogue.{Epilogue}
use Rattle.pe_unwind_arm64.specs.declared.unwind_errors.EntryError.{EntryError}
use Rattle.pe_unwind_arm64.specs.declared.unwind_codes.UnwindCode.{UnwindCode}

-- after no items is what is read
behind_nothing : {A : Type 0} (read : Result (List A) EntryError) → behind [] read ≡ read
behind_nothing (Ok items) = refl
behind_nothing (Err refusal) = refl

-- after items that were read in two steps is what is read after the second
behind_behind : {A : Type 0} (xs ys : List A) (read : Result (List A) EntryError)
    → behind (xs ++ ys) read ≡ behind xs (behind ys read)
behind_behind xs ys (Ok items) = rw append_assoc refl
behind_behind xs ys (Err refusal) = refl

-- how many are left, where there is one
one_left : (count counter : ℕ) → counter < count → count - counter ≡ suc (count - (counter + 1))
one_left count counter some = omega arith

-- before any epilogue is read, all are left
pub unread_scopes : (count length : ℕ) (codes : List UnwindCode) (bytes : List ℕ)
    → scopes_in count length codes bytes ≡ behind [] (scopes_up_to (count - 0) length codes 0 bytes)
unfolding scopes_in
unread_scopes count length codes bytes =
    let all : count - 0 ≡ count = omega arith in
    rw (all, behind_nothing) refl

-- with the next epilogue read, the epilogues are still those that were read and those that are left
pub one_scope_more : (count counter length reach : ℕ) (codes : List UnwindCode) (rest : List ℕ) (one : Epilogue)
    (all : Result (List Epilogue) EntryError) (before after : List Epilogue) → counter < count
    → Ok one ≡ scope_of reach length codes (first_scope rest) → after ≡ before ++ one ∷ []
    → all ≡ behind before (scopes_up_to (count - counter) length codes reach rest)
    → all ≡ behind after (scopes_up_to (count - (counter + 1)) length codes one.end (drop 4 rest))
one_scope_more count counter length reach codes rest one all before after some is pushed was =
    let more : count - counter ≡ suc (count - (counter + 1)) = one_left count counter some in
    let there : scope_of reach length codes (first_scope rest) ≡ Ok one = sym is in
    let read : scopes_up_to (suc (count - (counter + 1))) length codes reach rest
    ≡ behind (one ∷ []) (scopes_up_to (count - (counter + 1)) length codes one.end (drop 4 rest)) = simp there in
    was ∙ ap (λ n. behind before (scopes_up_to n length codes reach rest)) more ∙ ap (behind before) read
    ∙ sym (behind_behind before (one ∷ []) (scopes_up_to (count - (counter + 1)) length codes one.end (drop 4 rest)))
    ∙ ap (λ xs. behind xs (scopes_up_to (count - (counter + 1)) length codes one.end (drop 4 rest))) (sym pushed)

-- an epilogue that is refused refuses all
pub refused_scope : (count counter length reach : ℕ) (codes : List UnwindCode) (rest : List ℕ) (refusal : EntryError)
    (all : Result (List Epilogue) EntryError) (before : List Epilogue) → counter < count
    → Err refusal ≡ scope_of reach length codes (first_scope rest)
    → all ≡ behind before (scopes_up_to (count - counter) length codes reach rest) → all ≡ Err refusal
refused_scope count counter length reach codes rest refusal all before some is was =
    let more : count - counter ≡ suc (count - (counter + 1)) = one_left count counter some in
    let there : scope_of reach length codes (first_scope rest) ≡ Err refusal = sym is in
    let read : scopes_up_to (suc (count - (counter + 1))) length codes reach rest ≡ Err refusal = simp there in
    was ∙ ap (λ n. behind before (scopes_up_to n length codes reach rest)) more ∙ ap (behind before) read

-- where no epilogue is left, those that were read are all
pub all_scopes : (count counter length reach : ℕ) (codes : List UnwindCode) (rest : List ℕ)
    (all : Result (List Epilogue) EntryError) (before : List Epilogue) → count - counter ≡ 0
    → all ≡ behind before (scopes_up_to (count - counter) length codes reach rest) → all ≡ Ok before
all_scopes count counter length reach codes rest all before none was =
    let nothing : behind before (Ok []) ≡ Ok before = rw append-nil refl in
    was ∙ ap (λ n. behind before (scopes_up_to n length codes reach rest)) none ∙ nothing
