-- The type inputs: the data from which answers about types are computed.
use Rattle.std.specs.Prelude.{ℕ, List, Option, Result, Ok, Err}
use Rattle.pdb_records.specs.Readings.{Read}
use Rattle.pdb_records.specs.declared.error.StreamError.{StreamError}
use Rattle.pdb_records.specs.declared.error.Error.TheVariants.{Stream}
use Rattle.pdb_records.specs.declared.strings.StringRef.{StringRef}
use Rattle.pdb_records.specs.declared.types.Item.{Item}
use Rattle.pdb_records.specs.declared.types.TypeIndex.{TypeIndex}
use Rattle.pdb_records.specs.declared.types.TypeData.{TypeData}
use Rattle.pdb_records.specs.declared.ids.IdIndex.{IdIndex}
use Rattle.pdb_records.specs.declared.ids.IdData.{IdData}
use Rattle.pdb_records.specs.declared.debug_information.MachineType.{MachineType}
use Rattle.pdb_records.specs.declared.debug_information.Module.{Module}
use Rattle.pdb_errors.specs.declared.error.Error.{Error}
use Rattle.pdb_errors.specs.declared.error.Error.TheVariants.{PdbError}
use Rattle.pdb_records.specs.Provided.{ProviderInfos}
use Rattle.pdb_types.specs.declared.flags.TypeFormatterFlags.{TypeFormatterFlags}
use Rattle.pdb_types.specs.Sizes.{pointer_size}

-- the type inputs: a provider of modules' records, the list of modules, the texts that they share,
-- the size of a pointer, the types and the ids, and how signatures are printed
pub record TypeInputs (P : Type 0) : Type 0 where
  pub provider : P
  pub modules : List Module
  pub strings : Option (List (StringRef × List ℕ))
  pub pointer_size : ℕ
  pub types : Read (Item TypeIndex TypeData)
  pub ids : Read (Item IdIndex IdData)
  pub flags : TypeFormatterFlags

-- the link inputs: the records of each module, the list of modules, and the texts
pub record LinkInputs : Type 0 where
  pub info : ProviderInfos
  pub modules : List Module
  pub strings : Option (List (StringRef × List ℕ))

-- the link inputs of type inputs
abbrev pub link_inputs : {P : Type 0} → (P → ProviderInfos) → TypeInputs P → LinkInputs
link_inputs info inputs = record { info = info inputs.provider; modules = inputs.modules; strings = inputs.strings }

-- the size of a pointer in a program, if its machine could be read
abbrev pub program_pointer_size : Result MachineType StreamError → Result ℕ Error
program_pointer_size (Ok machine) = Ok (pointer_size machine)
program_pointer_size (Err fault) = Err (PdbError (Stream fault))
