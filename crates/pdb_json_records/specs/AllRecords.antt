-- The records of a file except those of modules, in a version of the format.
use Rattle.std.specs.Prelude.{ℕ, List, [], Option, Result, Ok, Err, if◌then◌else◌, codes}
use Rattle.serde_json.specs.Data.{Data}
use Rattle.pdb_records.specs.Records.{Records}
use Rattle.pdb_records.specs.declared.error.StreamError.{StreamError}
use Rattle.pdb_records.specs.declared.addresses.ImageSectionHeader.{ImageSectionHeader}
use Rattle.pdb_json_values.specs.RecordFault.{Fault, shape, ◌>>=◌}
use Rattle.pdb_json_records.specs.Members.{has, member_of, optional_of, list_of, stream_of}
use Rattle.pdb_json_records.specs.Sections.{section_of, range_of}
use Rattle.pdb_json_records.specs.Symbols.{symbol_table_of, type_index_of, id_index_of}
use Rattle.pdb_json_records.specs.DebugInformation.{debug_information_of}
use Rattle.pdb_json_records.specs.Items.{items_of}
use Rattle.pdb_json_records.specs.Types.{type_of}
use Rattle.pdb_json_records.specs.Ids.{id_of}
use Rattle.pdb_json_records.specs.Strings.{string_of}

-- the headers of the sections: null if there are none, but the member must be there
unfoldable pub sections_of : Data → Result (Result (Option (List ImageSectionHeader)) StreamError) Fault
sections_of d =
    if has (codes "sections") d
    then member_of (codes "sections") (stream_of (optional_of (list_of section_of))) d
    else Err (shape (codes "/sections") (codes "array"))

-- the records of a file of this version, without those of modules, or the first fault
unfoldable pub shared_records_of : ℕ → Data → Result Records Fault
shared_records_of version file = do
  sections ← sections_of file
  address_map ← member_of (codes "address_map") (stream_of (list_of range_of)) file
  global_symbols ← member_of (codes "global_symbols") (stream_of (symbol_table_of version)) file
  debug_information ← member_of (codes "debug_information") (stream_of (debug_information_of version)) file
  types ← member_of (codes "type_information") (stream_of (items_of type_index_of (type_of version))) file
  ids ← member_of (codes "id_information") (stream_of (items_of id_index_of (id_of version))) file
  strings ← member_of (codes "string_table") (stream_of (list_of (string_of version))) file
  Ok (record {
    sections = sections;
    address_map = address_map;
    global_symbols = global_symbols;
    debug_information = debug_information;
    type_information = types;
    id_information = ids;
    string_table = strings;
    module_infos = [];
  })
