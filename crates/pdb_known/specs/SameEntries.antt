-- Entries of types and ids that a part of the records shares with the whole.
use Rattle.std.specs.Prelude.{◌≡◌, ℕ, true, Ok}
use Rattle.pdb_records.specs.Readings.{Read}
use Rattle.pdb_records.specs.declared.types.Item.{Item}
use Rattle.pdb_records.specs.declared.types.TypeData.{TypeData}
use Rattle.pdb_records.specs.declared.ids.IdData.{IdData}
use Rattle.pdb_records.specs.Provided.{ProviderInfos}
use Rattle.pdb_types.specs.ForwardReferences.{forward_size}
use Rattle.pdb_types.specs.ItemReading.{entry}
use Rattle.pdb_types.specs.Resolution.{resolved}
use Rattle.pdb_types.specs.Sizes.{underneath}
use Rattle.pdb_types.specs.TypeInputs.{TypeInputs, LinkInputs, link_inputs}
use Rattle.pdb_part_laws.specs.Asked.{Indices, TypeAsksAt, IdAsksAt, AreTypesIn, alone}

-- an index resolves to the same number in both, and both have the same entry under that number
pub record IsSameEntry {I D : Type 0} (number_of : I → ℕ) (link : LinkInputs) (list : Read (Item I D))
    (other_link : LinkInputs) (others : Read (Item I D)) (module_index index : ℕ) : Type 0 where
  pub stands_for : resolved link module_index index ≡ resolved other_link module_index index
  pub has : (number : ℕ) → resolved link module_index index ≡ Ok number
      → entry number_of list number ≡ entry number_of others number

-- for indices of these sets in a module, the part has the same types, sizes and ids as the whole
pub record HasSameEntries {P : Type 0} (at : Indices) (info : P → ProviderInfos) (part whole : TypeInputs P)
    (module_index : ℕ) : Type 0 where
  pub flags : part.flags ≡ whole.flags
  pub pointer_size : part.pointer_size ≡ whole.pointer_size
  pub types : (index : ℕ) → at.types index ≡ true
      → IsSameEntry (λ i. i.0) (link_inputs info part) part.types (link_inputs info whole) whole.types
      module_index index
  pub sizes : (index : ℕ) → at.sizes index ≡ true
      → IsSameEntry (λ i. i.0) (link_inputs info part) part.types (link_inputs info whole) whole.types
      module_index index
  pub definitions : (index number : ℕ) → at.sizes index ≡ true
      → resolved (link_inputs info part) module_index index ≡ Ok number
      → forward_size number part.types.items ≡ forward_size number whole.types.items
  pub ids : (index : ℕ) → at.ids index ≡ true
      → IsSameEntry (λ i. i.0) (link_inputs info part) part.ids (link_inputs info whole) whole.ids module_index index

-- for indices of these sets in a module, the entries refer only to indices of the sets
pub record IsClosedFor {P : Type 0} (at : Indices) (info : P → ProviderInfos) (part : TypeInputs P)
    (module_index : ℕ) : Type 0 where
  pub types : (index number : ℕ) (content : TypeData) → at.types index ≡ true
      → resolved (link_inputs info part) module_index index ≡ Ok number
      → entry (λ i. i.0) part.types number ≡ Ok content → TypeAsksAt at content
  pub sizes : (index number : ℕ) (content : TypeData) → at.sizes index ≡ true
      → resolved (link_inputs info part) module_index index ≡ Ok number
      → entry (λ i. i.0) part.types number ≡ Ok content → AreTypesIn at.sizes (alone (underneath content))
  pub ids : (index number : ℕ) (content : IdData) → at.ids index ≡ true
      → resolved (link_inputs info part) module_index index ≡ Ok number
      → entry (λ i. i.0) part.ids number ≡ Ok content → IdAsksAt at content
