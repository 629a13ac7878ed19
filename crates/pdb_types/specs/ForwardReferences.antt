-- Classes and unions with a forward reference, which has only the name, and a definition, which has the size.
use Rattle.std.specs.Prelude.{◌≡◌, ℕ, ◌==◌, ◌&&◌, Bool, not, List, [], ◌∷◌}
use Rattle.std.specs.Prelude.{Option, Some, None, option_and_then, if◌then◌else◌}
use Rattle.std.specs.Option.{unwrap_or, option_or}
use Rattle.std.specs.Result.{result_ok}
use Rattle.std.specs.Str.{bytes_eq}
use Rattle.std.specs.Borrow.{Bor}
use Rattle.std.specs.BTreeMap.{BTreeMap, get, get_by}
use Rattle.std.specs.Cmp.Lexicographic.{slice_cmp}
use Rattle.std.specs.Ordering.{nat_cmp}
use Rattle.pdb_records.specs.declared.types.Item.{Item}
use Rattle.pdb_records.specs.declared.types.TypeIndex.{TypeIndex}
use Rattle.pdb_records.specs.declared.types.TypeData.{TypeData}
use Rattle.pdb_records.specs.declared.types.TypeData.TheVariants.{Class, Union}
use Rattle.pdb_types.specs.declared.aggregates.Aggregate as code
use Rattle.pdb_types.specs.ItemMap.{first_item}

-- a class or a union: its unique name or name, its size, and whether it is a forward reference
pub record Aggregate : Type 0 where
  pub name : List ℕ
  pub size : ℕ
  pub forward_reference : Bool

-- the model of the code's `Aggregate`
abbrev pub aggregate_view : code.Aggregate → Aggregate
aggregate_view a = record { name = a.name.now; size = a.size; forward_reference = a.forward_reference }

-- the class or union of a type; its unique name counts if it has one, otherwise its name
abbrev pub aggregate : TypeData → Option Aggregate
aggregate (Class c) =
    Some (record { name = unwrap_or c.unique_name c.name; size = c.size; forward_reference = c.forward_reference })
aggregate (Union u) =
    Some (record { name = unwrap_or u.unique_name u.name; size = u.size; forward_reference = u.forward_reference })
aggregate other = None

-- the class or union of an entry that could be read
abbrev pub item_aggregate : Item TypeIndex TypeData → Option Aggregate
item_aggregate item = option_and_then aggregate (result_ok item.content)

-- the size that a class or a union defines for a name: its own, if it has that name and is no forward reference
abbrev pub size_for : List ℕ → Aggregate → Option ℕ
size_for name a = if (not a.forward_reference && bytes_eq a.name name) then Some a.size else None

-- the size that an entry defines for a name
abbrev pub definition_size : List ℕ → Item TypeIndex TypeData → Option ℕ
definition_size name item = option_and_then (size_for name) (item_aggregate item)

-- the size in the first definition of a name
abbrev pub first_definition : List ℕ → List (Item TypeIndex TypeData) → Option ℕ
first_definition name [] = None
first_definition name (item ∷ items) = option_or (definition_size name item) (first_definition name items)

-- the entries after the first one with this index
abbrev pub entries_behind : ℕ → List (Item TypeIndex TypeData) → List (Item TypeIndex TypeData)
entries_behind number [] = []
entries_behind number (item ∷ items) = if item.index.0 == number then items else entries_behind number items

-- the size for a forward reference with this index: that in the first definition of its name after its entry
abbrev pub size_behind : ℕ → List ℕ → List (Item TypeIndex TypeData) → Option ℕ
size_behind number name items = first_definition name (entries_behind number items)

-- the name in a forward reference
abbrev pub referred_name : Aggregate → Option (List ℕ)
referred_name a = if a.forward_reference then Some a.name else None

-- the name of an entry, if it is a forward reference
abbrev pub entry_name : Item TypeIndex TypeData → Option (List ℕ)
entry_name item = option_and_then referred_name (item_aggregate item)

-- the size for the first entry with this index if it is a forward reference: that in the first definition of its name
-- after it
abbrev pub forward_size : ℕ → List (Item TypeIndex TypeData) → Option ℕ
forward_size number items =
    option_and_then (λ name. size_behind number name items)
    (option_and_then entry_name (first_item (λ index. index.0) number items))

-- the size under a name, in a map with borrowed names
abbrev pub size_under : BTreeMap (Bor (List ℕ)) ℕ → List ℕ → Option ℕ
size_under sizes name = get_by (λ key. slice_cmp nat_cmp name key.now) sizes

-- a map has under each name the size in its first definition among these entries
unfoldable pub Defines : List (Item TypeIndex TypeData) → BTreeMap (Bor (List ℕ)) ℕ → Type 0
Defines items sizes = (name : List ℕ) → size_under sizes name ≡ first_definition name items

-- a table has for each index the size for its forward reference
unfoldable pub Tabulates : List (Item TypeIndex TypeData) → BTreeMap ℕ ℕ → Type 0
Tabulates items sizes = (number : ℕ) → get nat_cmp sizes number ≡ forward_size number items
