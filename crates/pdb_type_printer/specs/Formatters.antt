-- A formatter of types: its type inputs, its memory, and how printing changes it.
use Rattle.std.specs.Prelude.{◌≡◌, ℕ}
use Rattle.pdb_types.specs.FailedParts.{Parts}
use Rattle.pdb_types.specs.TypeInputs.{TypeInputs}
use Rattle.pdb_records.specs.Provided.{ProviderInfos}
use Rattle.pdb_type_texts.specs.BrokenParts.{AddsBroken}
use Rattle.pdb_type_texts.specs.PrintInputs.{formatter_inputs}

-- a formatter: its type inputs, and the broken parts of the records that it found
pub record Formatter (P : Type 0) : Type 0 where
  pub type_inputs : TypeInputs P
  pub failed : Parts

-- a formatter after printing for the module with this index: its type inputs are the same, and the failed parts are
-- those from before and broken ones
pub record IsLater {P : Type 0} (info : P → ProviderInfos) (module_index : ℕ) (old new : Formatter P) : Type 0 where
  pub type_inputs : new.type_inputs ≡ old.type_inputs
  pub broken : AddsBroken (formatter_inputs info old.type_inputs module_index) old.failed new.failed
