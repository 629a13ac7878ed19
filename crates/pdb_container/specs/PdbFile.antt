-- All records of a file.
use Rattle.std.specs.Prelude.{ℕ, Bool, List, Option, Result, Ok, Err}
use Rattle.pdb_records.specs.Readings.{Read}
use Rattle.pdb_records.specs.Records.{Records}
use Rattle.pdb_records.specs.declared.error.StreamError.{StreamError}
use Rattle.pdb_records.specs.declared.symbols.Symbol.{Symbol}
use Rattle.pdb_records.specs.declared.symbols.SymbolTable.{SymbolTable}
use Rattle.pdb_msf.specs.declared.container_error.ContainerError.{ContainerError}
use Rattle.pdb_msf.specs.Msf.{Msf, stream_of}
use Rattle.pdb_container.specs.DebugRecords.{address_map, debug_information, global_symbols, module_infos, of_file}
use Rattle.pdb_container.specs.DebugRecords.{sections}
use Rattle.pdb_container.specs.Info.{features, version}
use Rattle.pdb_container.specs.PdbFileError.{Reason, refusal_of}
use Rattle.pdb_container.specs.NameStream.{string_table}
use Rattle.pdb_container.specs.TypeRecords.{id_information, type_information}

-- a symbol table with these symbols, or why there is none
abbrev pub table_of : Result (Read Symbol) StreamError → Result SymbolTable StreamError
table_of (Ok symbols) = Ok (record { symbols = symbols })
table_of (Err fault) = Err fault

-- the records of a container: each part, or the fault that breaks it
abbrev pub records : Msf → Records
records msf = record {
  sections = sections msf;
  address_map = address_map msf;
  global_symbols = table_of (global_symbols msf);
  debug_information = debug_information msf;
  type_information = type_information msf;
  id_information = id_information msf;
  string_table = string_table msf;
  module_infos = module_infos msf;
}

-- the records of a file, or why it is no container
abbrev pub records_of : List ℕ → Result Records ContainerError
records_of file = of_file records file

-- why the records of a container can't be used, if so
abbrev pub refusal_in : Msf → Option Reason
refusal_in msf = refusal_of (version (stream_of msf 1)) (records msf)

-- whether a container is listed as having only names
abbrev pub has_names_only : Msf → Bool
has_names_only msf = (features (stream_of msf 1)).names_only
