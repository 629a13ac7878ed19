-- Elements that a list gives at a position.
use Rattle.std.proofs.Common.{◌≡◌, ℕ, List, length, get_or, Option, Some, None, refl, sym, arith}
use Rattle.std.specs.Borrow.{Bor}
use Rattle.std.specs.Prelude.{IfSome, is_some, nat_lt, slice_get}
use Rattle.std.specs.Option.{option_copied}
use Rattle.std.proofs.lemmas.Bool.Decides.{nat_tests}
use Rattle.std.proofs.lemmas.Option.{slice_get_read, slice_get_past}

-- what is got at a position is its element, where there is one
pub got_at : {T : Type 0} (o : Option (Bor T)) (xs : List T) (i : ℕ) → is_some o ≡ nat_lt i (length xs)
    → IfSome o (λ x. x.now ≡ get_or xs i x.now) → option_copied o ≡ slice_get xs i
got_at None xs i there is = sym (slice_get_past xs i (grind (arith, nat_tests)))
got_at (Some x) xs i there is = sym (slice_get_read xs (length xs) i x.now refl (grind (arith, nat_tests)) is)
