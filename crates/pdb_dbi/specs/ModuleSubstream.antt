-- The list of modules.
use Rattle.std.specs.Prelude.{ℕ, List, take, drop, map, Result, Ok}
use Rattle.pdb_records.specs.Readings.{Read}
use Rattle.pdb_records.specs.declared.debug_information.Module.{Module}
use Rattle.pdb_records.specs.declared.error.StreamError.{StreamError}
use Rattle.pdb_msf.specs.Bytes.{first_text}
use Rattle.pdb_msf.specs.Faults.{◌>>=◌}
use Rattle.pdb_msf.specs.ItemLists.{all_items, first_padded}
use Rattle.pdb_msf.specs.NumberLists.{number, two_byte_number}
use Rattle.pdb_msf.specs.Readings.{with_fault}
use Rattle.pdb_dbi.specs.declared.module_substream.ModuleStream.{ModuleStream}
use Rattle.pdb_dbi.specs.Substreams.{SubstreamBytes}

-- a module in the list: its name, and the stream of its records
pub record ListedModule : Type 0 where
  pub name : List ℕ
  pub stream : ModuleStream

-- the stream of a module's records: ModuleSymStream at 34, SymByteSize at 36, C11ByteSize at 40 and C13ByteSize at 44
abbrev pub module_stream : List ℕ → ModuleStream
module_stream bytes = record {
  stream = two_byte_number (drop 34 bytes);
  symbols = number (drop 36 bytes);
  c11_lines = number (drop 40 bytes);
  lines = number (drop 44 bytes);
}

-- the first module, and the bytes after it. A module has 64 bytes, then its name (ModuleName) and that of its object
-- file (ObjFileName), which each end in a zero
abbrev pub first_module : List ℕ → Result (ListedModule × List ℕ) StreamError
first_module bytes = do
  name ← first_text (drop 64 bytes)
  object_file ← first_text name.1
  Ok (record { name = name.0; stream = module_stream (take 64 bytes) }, object_file.1)

-- all modules of these bytes, each padded to a multiple of four bytes
abbrev pub module_list : List ℕ → Read ListedModule
module_list bytes = all_items (first_padded first_module) bytes

-- the modules of a substream, with their names
abbrev pub modules : SubstreamBytes → Read Module
modules substream = with_fault substream.fault (record {
  items = map (λ listed. record { name = listed.name }) (module_list substream.bytes).items;
  fault = (module_list substream.bytes).fault;
})

-- the stream of each module's records, by the substream of modules
abbrev pub module_streams : SubstreamBytes → List ModuleStream
module_streams substream = map (λ listed. listed.stream) (module_list substream.bytes).items
