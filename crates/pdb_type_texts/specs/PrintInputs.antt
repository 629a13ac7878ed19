-- The print inputs: the data from which types and ids are printed.
use Rattle.std.specs.Prelude.{ℕ, Result, Ok}
use Rattle.pdb_records.specs.Readings.{Read}
use Rattle.pdb_records.specs.declared.types.Item.{Item}
use Rattle.pdb_records.specs.declared.types.TypeIndex.{TypeIndex}
use Rattle.pdb_records.specs.declared.types.TypeData.{TypeData}
use Rattle.pdb_records.specs.declared.ids.IdIndex.{IdIndex}
use Rattle.pdb_records.specs.declared.ids.IdData.{IdData}
use Rattle.pdb_types.specs.declared.flags.TypeFormatterFlags.{TypeFormatterFlags}
use Rattle.pdb_types.specs.declared.type_sizes.TypeSize.{TypeSize}
use Rattle.pdb_errors.specs.Outcomes.{and_then}
use Rattle.pdb_types.specs.ItemReading.{reading}
use Rattle.pdb_types.specs.TypeInputs.{TypeInputs, LinkInputs, link_inputs}
use Rattle.pdb_records.specs.Provided.{ProviderInfos}
use Rattle.pdb_types.specs.TypeSizes.{read_type, type_size}
use Rattle.pdb_types.specs.ReadError.{ReadErrorView}

-- the print inputs for one module: the type for each index, its size, the id for each index, and the flags
pub record PrintInputs : Type 0 where
  pub read : ℕ → Result TypeData ReadErrorView
  pub size : ℕ → TypeSize
  pub read_id : ℕ → Result IdData ReadErrorView
  pub flags : TypeFormatterFlags

-- the type for an index of the module with this module index, without the number to which the index resolves
unfoldable pub type_at : LinkInputs → Read (Item TypeIndex TypeData) → ℕ → ℕ → Result TypeData ReadErrorView
type_at w types module_index index = and_then (read_type w types module_index index) (λ read. Ok read.1)

-- the id for an index of the module with this module index, without the number to which the index resolves
unfoldable pub id_at : LinkInputs → Read (Item IdIndex IdData) → ℕ → ℕ → Result IdData ReadErrorView
id_at w ids module_index index = and_then (reading (λ i. i.0) w ids module_index index) (λ read. Ok read.1)

-- the print inputs for the module with this index
abbrev pub print_inputs_of : LinkInputs → Read (Item TypeIndex TypeData) → Read (Item IdIndex IdData) → ℕ
    → TypeFormatterFlags
    → ℕ → PrintInputs
print_inputs_of w types ids pointer flags module_index = record {
  read = type_at w types module_index;
  size = type_size w types pointer module_index;
  read_id = id_at w ids module_index;
  flags = flags;
}

-- the print inputs of a formatter, for the module with this index
abbrev pub formatter_inputs : {P : Type 0} → (P → ProviderInfos) → TypeInputs P → ℕ → PrintInputs
formatter_inputs info s module_index =
    print_inputs_of (link_inputs info s) s.types s.ids s.pointer_size s.flags module_index
