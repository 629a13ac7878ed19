-- Numeric leaves, by their first two bytes.
use Rattle.std.proofs.Common.{◌≡◌, ◌∙◌, ℕ, ◌≤◌, List, drop, length, nat_lt, false, sym, ap, arith}
use Rattle.std.proofs.lemmas.Grind.{common_steps}
use Rattle.pdb_msf.specs.NumberLists.{two_byte_number}
use Rattle.pdb_tpi.specs.NumericLeaves.{numeric_leaf, wide_number}

-- where the first two bytes are no number below LF_NUMERIC, they are the leaf of the number after them
pub leaf_first : (bytes left : List ℕ) (leaf : ℕ) → 2 ≤ length bytes → leaf ≡ two_byte_number bytes
    → left ≡ drop 2 bytes → 0x8000 ≤ leaf → numeric_leaf bytes ≡ wide_number leaf left
unfolding numeric_leaf
leaf_first bytes left leaf there read behind wide =
    let front : nat_lt (length bytes) 2 ≡ false = grind (arith, common_steps) in
    let not_below : nat_lt (two_byte_number bytes) 0x8000 ≡ false
    = ap (λ n. nat_lt n 0x8000) (sym read) ∙ below_none leaf wide in
    let found : numeric_leaf bytes ≡ wide_number (two_byte_number bytes) (drop 2 bytes) = simp (front, not_below) in
    found ∙ ap (λ n. wide_number n (drop 2 bytes)) (sym read) ∙ ap (wide_number leaf) (sym behind)
  where
    below_none : (n : ℕ) → 0x8000 ≤ n → nat_lt n 0x8000 ≡ false
    below_none n at = grind (arith, common_steps)
