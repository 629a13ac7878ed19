-- The identity of a PDB file: which build it belongs to.
use Rattle.std.specs.Prelude.{Option, Some, None, option_map, option_and_then}
use Rattle.std.specs.Result.{result_ok}
use Rattle.pdb_identity.specs.declared.info_header.InfoHeader.{InfoHeader}
use Rattle.pdb_identity.specs.InfoHeader.{info_header}
use Rattle.pdb_msf.specs.Faults.{◌>>=◌}
use Rattle.pdb_msf.specs.Msf.{Msf, stream_of}
use Rattle.pdb_dbi.specs.declared.debug_header.DebugHeader.{DebugHeader}
use Rattle.pdb_dbi.specs.DebugHeader.{header}
use Rattle.pdb_container.specs.declared.identity.DebugBuild.{DebugBuild}
use Rattle.pdb_container.specs.declared.identity.PdbIdentity.{PdbIdentity}

-- the age and the machine in a DBI header
abbrev pub build_of : DebugHeader → DebugBuild
build_of front = record { age = front.age; machine = front.machine }

-- the age and the machine of a file, if its debug information stream, number 3, has a header
unfoldable pub debug_build : Msf → Option DebugBuild
debug_build msf = option_map build_of (result_ok (stream_of msf 3 >>= header))

-- the identity by the header of the info stream; the age is that of the debug information, if there is one
abbrev pub identity_by : Option DebugBuild → InfoHeader → PdbIdentity
identity_by None front = record {
  debug_id = record { guid = front.guid; age = front.age };
  time_stamp = front.time_stamp;
  machine = None;
}
identity_by (Some build) front = record {
  debug_id = record { guid = front.guid; age = build.age };
  time_stamp = front.time_stamp;
  machine = Some (record { 0 = build.machine });
}

-- the identity of a container, if its info stream, number 1, is complete up to the GUID
unfoldable pub identity : Msf → Option PdbIdentity
identity msf = option_map (identity_by (debug_build msf)) (option_and_then info_header (result_ok (stream_of msf 1)))
