-- The CodeView record of a program, which names its PDB file.
use Rattle.std.specs.Prelude.{ℕ, List, [], ◌∷◌, ◌==◌, drop, Option, None, if◌then◌else◌, option_and_then, option_map}
use Rattle.uuid.specs.Parts.{swap_fields}
use Rattle.pdb_identity.specs.declared.code_view.CodeView.{CodeView}
use Rattle.pdb_identity.specs.declared.debug_id.DebugId.{DebugId}
use Rattle.pe_image.specs.NumbersAt.{bytes_at, number_at}

-- the debug id with these bytes of a GUID, and this age
abbrev pub debug_id : List ℕ → ℕ → DebugId
debug_id guid age = record { guid = swap_fields guid; age = age }

-- the debug id of a record: the letters RSDS, as a number, then the GUID and the age
abbrev pub code_view_id : List ℕ → Option DebugId
code_view_id bytes =
    option_and_then (λ letters. if letters == 1396986706 then
    option_and_then (λ guid. option_map (debug_id guid) (number_at 4 bytes 20)) (bytes_at bytes 4 16) else None)
    (number_at 4 bytes 0)

-- the bytes before the first zero, or all if there is none
abbrev pub before_zero : List ℕ → List ℕ
before_zero [] = []
before_zero (byte ∷ bytes) = if byte == 0 then [] else byte ∷ before_zero bytes

-- a CodeView record: the debug id of the PDB file, and the path to which the linker wrote it
pub record CodeViewRecord : Type 0 where
  pub debug_id : DebugId
  pub path : List ℕ

-- the record in these bytes, with its debug id; the path comes after the age
abbrev pub record_with : List ℕ → DebugId → CodeViewRecord
record_with bytes id = record { debug_id = id; path = before_zero (drop 24 bytes) }

-- the CodeView record in these bytes
abbrev pub code_view : List ℕ → Option CodeViewRecord
code_view bytes = option_map (record_with bytes) (code_view_id bytes)

-- the model of a CodeView record
abbrev pub code_view_seen : CodeView → CodeViewRecord
code_view_seen found = record { debug_id = found.debug_id; path = found.path.now }
