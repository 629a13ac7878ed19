-- What slots hold, as more are made and filled.
use Rattle.std.proofs.Common.{◌≡◌, ℕ, zero, suc, ◌<◌, false, List, [], ◌∷◌, ◌++◌, length, Option, None, refl, arith}
use Rattle.std.specs.Prelude.{◌==◌, slice_set, if◌then◌else◌}
use Rattle.std.proofs.lemmas.Bool.Decides.{nat_tests}
use Rattle.pdb_tables.specs.Slots.{held}

-- no slots hold nothing
pub none_held : {T : Type 0} (position : ℕ) → held {T = T} [] position ≡ None
none_held zero = refl
none_held (suc position) = refl

-- with one more empty slot all hold the same
pub held_more : {T : Type 0} (slots : List (Option T)) (position : ℕ) → held (slots ++ None ∷ []) position ≡ held slots position
held_more [] zero = refl
held_more [] (suc position) = none_held position
held_more (slot ∷ slots) zero = refl
held_more (slot ∷ slots) (suc position) = held_more slots position

-- a slot that is filled holds what was put into it, and the others hold what they held
pub held_put : {T : Type 0} (slots : List (Option T)) (position : ℕ) (x : Option T) (other : ℕ) → position < length slots
    → held (slice_set slots position x) other ≡ (if other == position then x else held slots other)
held_put [] position x other within = absurd (omega arith)
held_put (slot ∷ slots) zero x zero within = refl
held_put (slot ∷ slots) zero x (suc other) within =
    let apart : (suc other == zero) ≡ false = grind (arith, nat_tests) in rw apart refl
held_put (slot ∷ slots) (suc position) x zero within =
    let apart : (zero == suc position) ≡ false = grind (arith, nat_tests) in rw apart refl
held_put (slot ∷ slots) (suc position) x (suc other) within =
    let one_less : (suc other == suc position) ≡ (other == position) = grind (arith, nat_tests) in
    rw one_less (held_put slots position x other (omega arith))
