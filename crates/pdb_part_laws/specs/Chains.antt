-- Chains of types that stay among some indices.
use Rattle.std.specs.Prelude.{◌≡◌, ℕ, Bool, true}
use Rattle.pdb_records.specs.Readings.{Read}
use Rattle.pdb_records.specs.declared.types.Item.{Item}
use Rattle.pdb_records.specs.declared.types.TypeIndex.{TypeIndex}
use Rattle.pdb_records.specs.declared.types.TypeData.{TypeData}
use Rattle.pdb_types.specs.SizeLaws.{Leads}
use Rattle.pdb_types.specs.TypeInputs.{LinkInputs}
use Rattle.pdb_types.specs.TypeSizes.{step}

-- two lists of types agree on each of these indices: on the next index of its chain, or on the size at its end
abbrev pub AgreeOn : (ℕ → Bool) → LinkInputs → Read (Item TypeIndex TypeData) → LinkInputs
    → Read (Item TypeIndex TypeData) → ℕ → ℕ → Type 0
AgreeOn is_in link types other_link others pointer module_index =
    (index : ℕ) → is_in index ≡ true
    → step link types pointer module_index index ≡ step other_link others pointer module_index index

-- no chain leads from one of these indices to another index
abbrev pub IsClosed : (ℕ → Bool) → LinkInputs → Read (Item TypeIndex TypeData) → ℕ → ℕ → Type 0
IsClosed is_in link types pointer module_index =
    (index further : ℕ) → is_in index ≡ true → Leads (step link types pointer module_index) 1 index further
    → is_in further ≡ true
