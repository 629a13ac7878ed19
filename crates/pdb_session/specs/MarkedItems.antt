-- The items of a list that were read: the items with a mark at their position.
use Rattle.std.specs.Prelude.{◌≡◌, ◌≢◌, ℕ, ◌+◌, Bool, true, false, List, [], ◌∷◌, ◌++◌, slice_get, Some, None}
use Rattle.pdb_records.specs.declared.types.Item.{Item}
use Rattle.pdb_records.specs.declared.types.ItemInformation.{ItemInformation}
use Rattle.pdb_records.specs.declared.types.TypeData.{TypeData}
use Rattle.pdb_records.specs.declared.types.TypeIndex.{TypeIndex}
use Rattle.pdb_types.specs.ForwardReferences.{definition_size, entry_name}
use Rattle.pdb_tpi.specs.ItemStreams.{ItemMeaning, TypeList, item_at, item_of}
use Rattle.pdb_tpi.specs.TypeRecords.{TypeBytes}
use Rattle.pdb_tpi.specs.TypeLeaves.{types}

-- the items of the marked records, by their positions; `position` is that of the first record. Records after the last
-- mark aren't marked
abbrev pub marked_from : {A : Type 0} → (ℕ → TypeBytes → A) → ℕ → List Bool → List TypeBytes → List A
marked_from item position marks [] = []
marked_from item position [] (bytes ∷ rest) = []
marked_from item position (true ∷ marks) (bytes ∷ rest) =
    item position bytes ∷ marked_from item (position + 1) marks rest
marked_from item position (false ∷ marks) (bytes ∷ rest) = marked_from item (position + 1) marks rest

-- the marked items of a list, after the items that every list has
abbrev pub marked_items : {I D : Type 0} → ItemMeaning I D → TypeList → List Bool → ItemInformation I D
marked_items meaning list marks = record {
  items = record {
    items = meaning.first ++ marked_from (item_of meaning list.first) 0 marks list.records;
    fault = list.fault;
  };
}

-- each type whose size is known is marked; if it is a forward reference, each definition of its name is marked too
pub record AreSettled (list : TypeList) (marks sizes : List Bool) : Type 0 where
  pub marked : (position : ℕ) → slice_get sizes position ≡ Some true → slice_get marks position ≡ Some true
  pub defined : (position : ℕ) (item : Item TypeIndex TypeData) (name : List ℕ)
      → slice_get sizes position ≡ Some true → item_at types list position ≡ Some item → entry_name item ≡ Some name
      → (other : ℕ) (definition : Item TypeIndex TypeData) → item_at types list other ≡ Some definition
      → definition_size name definition ≢ None → slice_get marks other ≡ Some true
