-- Types that define given names, and the sizes that are settled once all definitions of these names were read.
use Rattle.std.specs.Prelude.{◌≡◌, ◌≢◌, ℕ, ◌&&◌, Bool, true, false, List, slice_get, Some, None}
use Rattle.std.specs.BTreeSet.{BTreeSet, contains_by}
use Rattle.std.specs.Cmp.Lexicographic.{slice_cmp}
use Rattle.std.specs.Global.{Vec}
use Rattle.std.specs.Option.{option_map_or}
use Rattle.std.specs.Ordering.{nat_cmp}
use Rattle.pdb_records.specs.declared.types.Item.{Item}
use Rattle.pdb_records.specs.declared.types.TypeData.{TypeData}
use Rattle.pdb_records.specs.declared.types.TypeIndex.{TypeIndex}
use Rattle.pdb_types.specs.ForwardReferences.{definition_size, entry_name, item_aggregate}
use Rattle.pdb_tpi.specs.ItemStreams.{TypeList, item_at}
use Rattle.pdb_tpi.specs.TypePlaces.{defines_at}
use Rattle.pdb_tpi.specs.TypeLeaves.{types}

-- whether a set of names contains these bytes
abbrev pub has_name : BTreeSet (Vec ℕ) → List ℕ → Bool
has_name names name = contains_by (λ key. slice_cmp nat_cmp name key.items) names

-- whether an entry is a class or a union whose name is one of these
abbrev pub goes_by : BTreeSet (Vec ℕ) → Item TypeIndex TypeData → Bool
goes_by names item = option_map_or (λ a. has_name names a.name) (item_aggregate item) false

-- whether the entry at a position of a list defines one of these names
abbrev pub defines_one : BTreeSet (Vec ℕ) → TypeList → ℕ → Bool
defines_one names list position =
    defines_at list position && option_map_or (goes_by names) (item_at types list position) false

-- each type of a list that defines one of these names is marked
abbrev pub AreMarked : BTreeSet (Vec ℕ) → TypeList → List Bool → Type 0
AreMarked names list marks = (name : List ℕ) → has_name names name ≡ true
    → (position : ℕ) (item : Item TypeIndex TypeData) → item_at types list position ≡ Some item
    → definition_size name item ≢ None → slice_get marks position ≡ Some true

-- whether an entry's size is settled: it isn't a forward reference, or its name is one of these
abbrev pub is_settled : BTreeSet (Vec ℕ) → Item TypeIndex TypeData → Bool
is_settled names item = option_map_or (has_name names) (entry_name item) true

-- whether a list has an entry at a position whose size is settled
abbrev pub is_settled_at : BTreeSet (Vec ℕ) → TypeList → ℕ → Bool
is_settled_at names list position = option_map_or (is_settled names) (item_at types list position) false

-- each forward reference of a list whose size is settled has one of these names
abbrev pub AreNamed : BTreeSet (Vec ℕ) → TypeList → List Bool → Type 0
AreNamed names list sizes = (position : ℕ) (item : Item TypeIndex TypeData) (name : List ℕ)
    → slice_get sizes position ≡ Some true → item_at types list position ≡ Some item → entry_name item ≡ Some name
    → has_name names name ≡ true
