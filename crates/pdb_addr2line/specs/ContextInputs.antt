-- The inputs of a context.
use Rattle.std.specs.Prelude.{ℕ, List, [], Option, Result, Ok, option_map}
use Rattle.std.specs.Result.{result_unwrap_or}
use Rattle.pdb_records.specs.declared.error.Error.TheVariants.{Stream}
use Rattle.pdb_records.specs.declared.addresses.AddressRange.{AddressRange}
use Rattle.pdb_records.specs.declared.addresses.ImageSectionHeader.{ImageSectionHeader}
use Rattle.pdb_records.specs.declared.debug_information.DebugInformation.{DebugInformation}
use Rattle.pdb_records.specs.declared.strings.StringRef.{StringRef}
use Rattle.pdb_records.specs.declared.symbols.SymbolTable.{SymbolTable}
use Rattle.pdb_errors.specs.declared.error.Error.{Error}
use Rattle.pdb_errors.specs.declared.error.Error.TheVariants.{PdbError}
use Rattle.pdb_functions.specs.declared.merged_contributions.ModuleSectionContribution.{ModuleSectionContribution}
use Rattle.pdb_types.specs.FailedParts.{Parts}
use Rattle.pdb_errors.specs.Outcomes.{unless, and_then}
use Rattle.pdb_types.specs.TypeInputs.{TypeInputs}
use Rattle.pdb_frames.specs.CodeParts.{CodeParts}
use Rattle.pdb_functions.specs.MergedContributions.{merged_contributions}
use Rattle.pdb_functions.specs.GlobalFunctions.{GlobalFunction, global_functions}

-- the inputs of a context: records for lookups, and the type inputs of its formatter, whose list of modules lookups use
-- too
pub record ContextInputs (P : Type 0) : Type 0 where
  pub provider : P
  pub sections : List ImageSectionHeader
  pub address_map : List AddressRange
  pub global_symbols : SymbolTable
  pub strings : Option (List (StringRef × List ℕ))
  pub debug_information : DebugInformation
  pub type_inputs : TypeInputs P

-- the state of a context: its inputs, the broken parts of the records that its formatter found, and those of the
-- records of code
pub record ContextState (P : Type 0) : Type 0 where
  pub inputs : ContextInputs P
  pub failed : Parts
  pub code_failed : CodeParts

-- the merged contributions of these records; a context never has refused ones
abbrev pub contributions_of : {P : Type 0} → ContextInputs P → List ModuleSectionContribution
contributions_of s = result_unwrap_or (merged_contributions s.sections s.debug_information) []

-- the global functions of these records
abbrev pub global_functions_of : {P : Type 0} → ContextInputs P → List GlobalFunction
global_functions_of s = global_functions s.sections s.global_symbols.symbols.items s.debug_information

-- the merged contributions for lookups; an error for a fault of the global symbols, or if merging refuses them
abbrev pub searched_contributions : List ImageSectionHeader → SymbolTable → DebugInformation
    → Result (List ModuleSectionContribution) Error
searched_contributions sections global_symbols debug =
    unless (option_map (λ fault. PdbError (Stream fault)) global_symbols.symbols.fault)
    (merged_contributions sections debug)

-- these records, unless their contributions are refused
abbrev pub accepted : {P : Type 0} → ContextInputs P → Result (ContextInputs P) Error
accepted s = and_then (searched_contributions s.sections s.global_symbols s.debug_information) (λ merged. Ok s)
