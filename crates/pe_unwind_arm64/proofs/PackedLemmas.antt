-- Parts of a canonical prologue, one operation more at a time.
use Rattle.std.proofs.Common.{◌≡◌, ℕ, suc, ◌+◌, ◌-◌, ◌<◌, List, [], ◌∷◌, ◌++◌, ap, sym, ◌∙◌, append_assoc, arith}
use Rattle.std.specs.Prelude.{replicate}
use Rattle.pe_unwind_arm64.specs.Canonical.{pair_operation, pair_part}
use Rattle.pe_unwind_arm64.specs.declared.unwind_codes.Operation.{Operation}

-- with one operation more appended, all are those that were appended and those that are left
one_more : (all before after left : List Operation) (one : Operation) → after ≡ before ++ one ∷ []
    → all ≡ before ++ one ∷ left → all ≡ after ++ left
one_more all before after left one pushed was =
    was ∙ sym (append_assoc before (one ∷ []) left) ∙ ap (λ xs. xs ++ left) (sym pushed)

-- the same for one operation that is appended so many times
pub one_copy_more : (one : Operation) (count counter : ℕ) (all before after : List Operation) → counter < count
    → after ≡ before ++ one ∷ [] → all ≡ before ++ replicate (count - counter) one
    → all ≡ after ++ replicate (count - (counter + 1)) one
one_copy_more one count counter all before after some pushed was =
    let more : count - counter ≡ suc (count - (counter + 1)) = omega arith in
    one_more all before after (replicate (count - (counter + 1)) one) one pushed
    (was ∙ ap (λ n. before ++ replicate n one) more)

-- the same for pairs, the last of which is appended first
pub one_pair_more : (saved count done : ℕ) (pair : Operation) (all before after : List Operation) → done < count
    → pair ≡ pair_operation saved (count - done - 1) → after ≡ before ++ pair ∷ []
    → all ≡ before ++ pair_part saved (count - done) → all ≡ after ++ pair_part saved (count - (done + 1))
one_pair_more saved count done pair all before after some is pushed was =
    let more : count - done ≡ suc (count - (done + 1)) = omega arith in
    let number : count - (done + 1) ≡ count - done - 1 = omega arith in
    let same : pair_operation saved (count - (done + 1)) ≡ pair = ap (pair_operation saved) number ∙ sym is in
    one_more all before after (pair_part saved (count - (done + 1))) pair pushed
    (was ∙ ap (λ n. before ++ pair_part saved n) more
    ∙ ap (λ x. before ++ x ∷ pair_part saved (count - (done + 1))) same)
