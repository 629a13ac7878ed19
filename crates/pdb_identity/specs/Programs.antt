-- The identity of a program or a DLL: its build, its machine, its image base, and its PDB file.
use Rattle.std.specs.Prelude.{ℕ, ◌==◌, List, [], ◌∷◌, Option, Some, None, if◌then◌else◌, option_and_then}
use Rattle.std.specs.Prelude.{option_map}
use Rattle.pe_image.specs.DebugDirectory.{debug_data, debug_entries, image_debug_type_codeview}
use Rattle.pe_image.specs.Image.{Program}
use Rattle.pe_image.specs.declared.debug_directory.DebugEntry.{DebugEntry}
use Rattle.pdb_identity.specs.CodeView.{CodeViewRecord, code_view, code_view_seen}
use Rattle.pdb_identity.specs.declared.code_id.CodeId.{CodeId}
use Rattle.pdb_identity.specs.declared.program_file.ProgramFile.{ProgramFile}

-- the identity of a program
pub record ProgramIdentity : Type 0 where
  pub machine : ℕ
  pub code_id : CodeId
  pub image_base : ℕ
  pub code_view : Option CodeViewRecord

-- the model of `ProgramFile`
abbrev pub identity_seen : ProgramFile → ProgramIdentity
identity_seen file = record {
  machine = file.machine.0;
  code_id = file.code_id;
  image_base = file.image_base;
  code_view = option_map code_view_seen file.code_view;
}

-- the CodeView record of an entry of the debug directory; absent if the entry has another kind
abbrev pub code_view_by : Program → DebugEntry → Option CodeViewRecord
code_view_by program entry =
    if entry.kind == image_debug_type_codeview then option_and_then code_view (debug_data program entry) else None

-- the first record if there is one, otherwise the second
abbrev pub or_else : Option CodeViewRecord → Option CodeViewRecord → Option CodeViewRecord
or_else (Some found) other = Some found
or_else None other = other

-- the first CodeView record of these entries
abbrev pub code_view_in : Program → List DebugEntry → Option CodeViewRecord
code_view_in program [] = None
code_view_in program (entry ∷ entries) = or_else (code_view_by program entry) (code_view_in program entries)

-- the identity of a program, by the entries of its debug directory; its code id is the time stamp and the size of its
-- image
abbrev pub identity_by : List DebugEntry → Program → ProgramIdentity
identity_by entries program = record {
  machine = program.machine;
  code_id = record { time_stamp = program.time_stamp; image_size = program.image_size };
  image_base = program.image_base;
  code_view = code_view_in program entries;
}

-- the identity of a program, with its debug directory
abbrev pub program_identity : Program → ProgramIdentity
program_identity program = identity_by (debug_entries program) program
