-- The header of a PDB file's info stream.
use Rattle.std.specs.Prelude.{ℕ, List, Option, Some, None, drop, take, length, nat_lt, if◌then◌else◌}
use Rattle.byteorder.specs.Endian.{little_number}
use Rattle.uuid.specs.Parts.{swap_fields}
use Rattle.pdb_identity.specs.declared.info_header.InfoHeader.{InfoHeader}

-- the header: version, time stamp and age, four bytes each, and the 16 bytes of the GUID, whose first three fields are
-- little-endian
abbrev pub info_header : List ℕ → Option InfoHeader
info_header bytes =
    if nat_lt (length bytes) 28 then None
    else Some (record {
      version = little_number 4 bytes;
      time_stamp = little_number 4 (drop 4 bytes);
      age = little_number 4 (drop 8 bytes);
      guid = swap_fields (take 16 (drop 12 bytes));
    })
