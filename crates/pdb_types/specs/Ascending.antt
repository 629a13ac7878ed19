-- Entries with ascending numbers.
use Rattle.std.specs.Prelude.{ℕ, ◌<◌, ◌==◌, List, Option, find, length, slice_index_or}

-- the first entry with this number
abbrev pub first_numbered : {T : Type 0} → (T → ℕ) → ℕ → List T → Option T
first_numbered number_of number entries = find (λ entry. number_of entry == number) entries

-- the numbers of the entries ascend
unfoldable pub Ascends : {T : Type 0} → (T → ℕ) → List T → Type 0
Ascends {T} number_of entries = (ahead behind : ℕ) (default : T) → ahead < behind → behind < length entries
    → number_of (slice_index_or entries ahead default) < number_of (slice_index_or entries behind default)
