-- The indices of an array's elements.
use Rattle.std.proofs.Common.{◌≡◌, ℕ, nat_eq, List, [], ◌∷◌, refl, arith}
use Rattle.std.proofs.lemmas.Grind.{common_steps}
use Rattle.std.proofs.lemmas.Bool.{cases_eq}
use Rattle.std.specs.BTreeMap.{is_at}
use Rattle.std.specs.List.{list_any}
use Rattle.std.specs.Ordering.{nat_cmp}
use Rattle.pdb_type_texts.specs.Plans.{is_among}

-- a key is at a number where it is that number
at_number : (q key : ℕ) → is_at (nat_cmp q) key ≡ nat_eq q key
at_number q key = grind (arith, common_steps, cases_eq q key)

-- a number is among keys where one of them is at it
pub keys-among : (q : ℕ) (keys : List ℕ) → list_any (is_at (nat_cmp q)) keys ≡ is_among q keys
keys-among q [] = refl
keys-among q (key ∷ keys) = let rest = keys-among q keys in rw (at_number q key) (rw rest refl)
