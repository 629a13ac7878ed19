-- Primitives, mode by mode.
use Rattle.std.proofs.Common.{◌≡◌, ◌∙◌, ℕ, suc, ◌+◌, ◌-◌, ◌<◌, List, ◌++◌, sym, ap, append_assoc, arith}
use Rattle.std.specs.List.{flat_map, range_with_len}

-- with the next number's items listed, the items are still those that were listed and those that are left
pub one_mode_more : {A : Type 0} (items : ℕ → List A) (count mode : ℕ) (all before after : List A) → mode < count
    → all ≡ before ++ flat_map items (range_with_len mode (count - mode)) → after ≡ before ++ items mode
    → all ≡ after ++ flat_map items (range_with_len (mode + 1) (count - (mode + 1)))
one_mode_more items count mode all before after below was pushed =
    let left : count - mode ≡ suc (count - (mode + 1)) = omega arith in
    was ∙ ap (λ n. before ++ flat_map items (range_with_len mode n)) left
    ∙ sym (append_assoc before (items mode) (flat_map items (range_with_len (mode + 1) (count - (mode + 1)))))
    ∙ ap (λ xs. xs ++ flat_map items (range_with_len (mode + 1) (count - (mode + 1)))) (sym pushed)
