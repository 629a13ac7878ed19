-- Lists with the same members.
use Rattle.std.specs.Prelude.{ℕ, ◌↔◌, List, Contains}

-- each number is in both lists, or in neither
unfoldable pub HaveSameMembers : List ℕ → List ℕ → Type 0
HaveSameMembers xs ys = (number : ℕ) → Contains xs number ↔ Contains ys number
