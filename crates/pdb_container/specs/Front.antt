-- The records of a file other than types, ids and the records of modules.
use Rattle.std.specs.Prelude.{◌≡◌}
use Rattle.pdb_records.specs.Records.{Records}
use Rattle.pdb_msf.specs.Msf.{Msf}
use Rattle.pdb_container.specs.DebugRecords.{address_map, debug_information, global_symbols, sections}
use Rattle.pdb_container.specs.PdbFile.{table_of}
use Rattle.pdb_container.specs.NameStream.{string_table}

-- the records have all parts of a container, except perhaps types, ids and the records of modules
abbrev pub HasFront : Msf → Records → Type 0
HasFront msf records =
    (records.sections ≡ sections msf)
    × (records.address_map ≡ address_map msf)
    × (records.global_symbols ≡ table_of (global_symbols msf))
    × (records.debug_information ≡ debug_information msf)
    × (records.string_table ≡ string_table msf)

-- two sets of records differ at most in types, ids and the records of modules
abbrev pub SameFront : Records → Records → Type 0
SameFront old new =
    (new.sections ≡ old.sections)
    × (new.address_map ≡ old.address_map)
    × (new.global_symbols ≡ old.global_symbols)
    × (new.debug_information ≡ old.debug_information)
    × (new.string_table ≡ old.string_table)
