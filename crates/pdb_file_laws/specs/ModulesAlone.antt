-- When all records of a file have no more of a module than its own stream.
use Rattle.std.specs.Prelude.{◌≡◌, ℕ, [], slice_get, Some}
use Rattle.pdb_msf.specs.Msf.{Msf}
use Rattle.pdb_container.specs.DebugRecords.{module_infos, streams_of_modules}
use Rattle.pdb_container.specs.FunctionsByStart.{symbols_of}
use Rattle.pdb_container.specs.ModulePlaces.{module_at}
use Rattle.pdb_container.specs.UnnamedCode.{code_of_module}

-- all code of the module at a position has a name: its own stream has no jump, and each chunk comes after code that
-- starts where the chunk's function does
abbrev pub HasNamedCode : Msf → ℕ → Type 0
HasNamedCode msf position =
    code_of_module position (symbols_of (module_at msf (streams_of_modules msf) position)) ≡ []

-- all records of the file have the same records of the module at a position as its own stream
abbrev pub IsSaidAlone : Msf → ℕ → Type 0
IsSaidAlone msf position =
    slice_get (module_infos msf) position ≡ Some (module_at msf (streams_of_modules msf) position)
