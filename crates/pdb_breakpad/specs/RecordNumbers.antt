-- The numbers of names.
use Rattle.std.specs.Prelude.{ℕ, ◌≡◌, List, Some, slice_get, String}
use Rattle.std.specs.BTreeMap.{BTreeMap, get_by_text}

-- the number that a table has for a name is a position of that name in the list
abbrev pub KnowsNumbers : {Y : Type 0} → BTreeMap (String Y) ℕ → List (List ℕ) → Type 0
KnowsNumbers numbers names = (name : List ℕ) (number : ℕ)
    → get_by_text numbers name ≡ Some number → slice_get names number ≡ Some name

-- each number keeps its name
abbrev pub KeepsNames : List (List ℕ) → List (List ℕ) → Type 0
KeepsNames old new = (number : ℕ) (name : List ℕ)
    → slice_get old number ≡ Some name → slice_get new number ≡ Some name
