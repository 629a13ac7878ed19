-- Entries that a map caches by their numbers.
use Rattle.std.specs.Prelude.{◌≡◌, ℕ, List, option_map}
use Rattle.std.specs.Borrow.{Bor}
use Rattle.std.specs.BTreeMap.{BTreeMap, get}
use Rattle.std.specs.Ordering.{nat_cmp}
use Rattle.pdb_types.specs.Ascending.{first_numbered}

-- each number in a map leads to the first of these entries with that number
unfoldable pub Knows : {T : Type 0} → (T → ℕ) → List T → BTreeMap ℕ (Bor T) → Type 0
Knows number_of entries known =
    (number : ℕ) → option_map (λ entry. entry.now) (get nat_cmp known number) ≡ first_numbered number_of number entries
