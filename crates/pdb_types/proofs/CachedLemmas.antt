-- What a map knows of the entries of a list.
use Rattle.std.proofs.Common.{◌≡◌, ℕ, zero, suc, ◌+◌, ◌<◌, ◌≤◌, ◌∙◌, List, [], ◌∷◌, take, drop, length, get_or, sym}
use Rattle.std.proofs.Common.{arith, refl}
use Rattle.std.specs.Prelude.{Option, Some, None, option_map}
use Rattle.std.specs.Option.{option_or}
use Rattle.std.specs.Borrow.{Bor}
use Rattle.std.specs.BTreeMap.{BTreeMap, get}
use Rattle.std.specs.Ordering.{nat_cmp}
use Rattle.pdb_types.specs.Ascending.{first_numbered}
use Rattle.pdb_types.specs.CachedEntries.{Knows}
use Rattle.pdb_types.proofs.AscendingLemmas.{first_more, first_take, first_split}

-- what a map has under a number
abbrev pub known_under : {T : Type 0} → BTreeMap ℕ (Bor T) → ℕ → Option T
known_under known number = option_map (λ entry. entry.now) (get nat_cmp known number)

-- so many of these entries were read, and a map knows them
pub record HasRead {T : Type 0} (number_of : T → ℕ) (entries : List T) (i : ℕ)
    (known : BTreeMap ℕ (Bor T)) : Type 0 where
  pub within : i ≤ length entries
  pub knows : Knows number_of (take i entries) known

-- entries that have numbers
module _ {T : Type 0} (number_of : T → ℕ) where
  -- a map that learns the next entry knows one more
  pub knows_more : (entries : List T) (i : ℕ) (entry : T) (old new : BTreeMap ℕ (Bor T)) → i < length entries
      → entry ≡ get_or entries i entry → Knows number_of (take i entries) old
      → ((number : ℕ) → known_under new number
      ≡ option_or (known_under old number) (first_numbered number_of number (entry ∷ [])))
      → Knows number_of (take (i + 1) entries) new
  unfolding Knows
  knows_more entries i entry old new within is knew learned number =
      rw (learned number, knew number) (sym (first_more number_of entries i entry within is number))

  -- a map that answers as before knows what it knew
  pub knows_same : (entries : List T) (old new : BTreeMap ℕ (Bor T)) → Knows number_of entries old
      → ((number : ℕ) → get nat_cmp new number ≡ get nat_cmp old number) → Knows number_of entries new
  unfolding Knows
  knows_same entries old new knew same number = rw (same number) (knew number)

  -- an empty map knows the entries of an empty list
  pub knows_nothing : (known : BTreeMap ℕ (Bor T)) → known.entries ≡ [] → Knows number_of [] known
  unfolding Knows
  knows_nothing known empty number = rw empty refl

  -- what the map has is the first entry of its number
  pub knows_first : (entries : List T) (i : ℕ) (known : BTreeMap ℕ (Bor T)) (number : ℕ) (entry : T)
      → Knows number_of (take i entries) known → Some entry ≡ known_under known number
      → Some entry ≡ first_numbered number_of number entries
  unfolding Knows
  knows_first entries i known number entry knew got =
      sym (first_take number_of entries i number entry (sym (knew number) ∙ sym got))

  -- what the map lacks is not among the entries that it knows
  pub knows_none : (entries : List T) (known : BTreeMap ℕ (Bor T)) (number : ℕ) → Knows number_of entries known
      → None ≡ known_under known number → first_numbered number_of number entries ≡ None
  unfolding Knows
  knows_none entries known number knew got = sym (knew number) ∙ sym got

  -- entries behind a beginning stay read, as the beginning is a new one only where none was
  pub has_read : (entries : List T) (old new i : ℕ) (known : BTreeMap ℕ (Bor T)) → (0 < i → new ≡ old)
      → i ≤ length (drop old entries) → Knows number_of (take i (drop old entries)) known
      → HasRead number_of (drop new entries) i known
  has_read entries old new zero known stays within knew = record { within = omega arith; knows = knew }
  has_read entries old new (suc i) known stays within knew =
      let same : new ≡ old = stays (omega arith) in rw same (record { within = within; knows = knew })

  -- what is first behind a beginning that lacks the number is first in all
  pub first_behind : (entries : List T) (i number : ℕ) → None ≡ first_numbered number_of number (take i entries)
      → first_numbered number_of number (drop i entries) ≡ first_numbered number_of number entries
  first_behind entries i number absent = rw (first_split number_of entries i number, ← absent) refl

  -- so is what a map has that knows the entries behind it
  pub knows_behind : (entries : List T) (i number : ℕ) (known : BTreeMap ℕ (Bor T))
      → None ≡ first_numbered number_of number (take i entries) → Knows number_of (drop i entries) known
      → known_under known number ≡ first_numbered number_of number entries
  unfolding Knows
  knows_behind entries i number known absent knew = knew number ∙ first_behind entries i number absent
