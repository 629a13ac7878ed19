-- All records of a program.
use Rattle.std.specs.Prelude.{ℕ, List, Option, Result}
use Rattle.pdb_records.specs.declared.error.StreamError.{StreamError}
use Rattle.pdb_records.specs.declared.addresses.AddressRange.{AddressRange}
use Rattle.pdb_records.specs.declared.addresses.ImageSectionHeader.{ImageSectionHeader}
use Rattle.pdb_records.specs.declared.symbols.SymbolTable.{SymbolTable}
use Rattle.pdb_records.specs.declared.debug_information.DebugInformation.{DebugInformation}
use Rattle.pdb_records.specs.declared.types.ItemInformation.{ItemInformation}
use Rattle.pdb_records.specs.declared.types.TypeIndex.{TypeIndex}
use Rattle.pdb_records.specs.declared.types.TypeData.{TypeData}
use Rattle.pdb_records.specs.declared.ids.IdIndex.{IdIndex}
use Rattle.pdb_records.specs.declared.ids.IdData.{IdData}
use Rattle.pdb_records.specs.declared.strings.StringRef.{StringRef}
use Rattle.pdb_records.specs.declared.modules.ModuleInfo.{ModuleInfo}

-- the content of each stream, or the fault of the stream
pub record Records : Type 0 where
  pub sections : Result (Option (List ImageSectionHeader)) StreamError
  pub address_map : Result (List AddressRange) StreamError
  pub global_symbols : Result SymbolTable StreamError
  pub debug_information : Result DebugInformation StreamError
  pub type_information : Result (ItemInformation TypeIndex TypeData) StreamError
  pub id_information : Result (ItemInformation IdIndex IdData) StreamError
  pub string_table : Result (List (StringRef × List ℕ)) StreamError
  pub module_infos : List (Result (Option ModuleInfo) StreamError)
