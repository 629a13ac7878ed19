-- Why the module files of a records file can't be read.
use Rattle.std.specs.Prelude.{◌≡◌, ⊤, Bool, true, false, List, ℕ, Result, Ok, string_bytes}
use Rattle.std.specs.List.{Contains}
use Rattle.std.specs.declared.io.ErrorKind.{ErrorKind}
use Rattle.std.specs.declared.io.ErrorKind.TheVariants as kind
use Rattle.serde_json.specs.Data.{Data}
use Rattle.pdb_json_values.specs.RecordFault.{Fault, IsFaultOf}
use Rattle.pdb_json.specs.RecordsFile.{wanted_files_of}
use Rattle.pdb_records_files.specs.declared.module_files.ModuleFileError.{ModuleFileError}
use Rattle.pdb_records_files.specs.declared.module_files.ModuleFileError.TheVariants.{OutOfMemory, CannotRead, Records}
use Rattle.pdb_records_files.specs.ModulePaths.{module_path}

-- whether a system error is a lack of memory
abbrev pub is_out_of_memory : ErrorKind → Bool
is_out_of_memory kind.OutOfMemory = true
is_out_of_memory _ = false

-- the module file at a path can't be read, and the error has its path; or memory ran out
abbrev pub IsModuleFileFault : List ℕ → ModuleFileError → Type 0
IsModuleFileFault path (CannotRead shown) = string_bytes shown ≡ path
IsModuleFileFault path OutOfMemory = ⊤
IsModuleFileFault path (Records fault) = ⊥

-- a path is that of a module file that a records file wants
pub record IsWantedPath (records_path : List ℕ) (files : Result (List (List ℕ)) Fault) (path : List ℕ) : Type 0 where
  pub names : List (List ℕ)
  pub wanted : files ≡ Ok names
  pub name : List ℕ
  pub among : Contains names name
  pub shown : path ≡ module_path records_path name

-- a module file that a records file with this value wants can't be read, and the error has its path; or the value has
-- no readable names of module files; or memory ran out
abbrev pub AreModuleFileFaults : List ℕ → Data → ModuleFileError → Type 0
AreModuleFileFaults records_path value (CannotRead shown) =
    IsWantedPath records_path (wanted_files_of value) (string_bytes shown)
AreModuleFileFaults records_path value OutOfMemory = ⊤
AreModuleFileFaults records_path value (Records fault) = IsFaultOf fault (wanted_files_of value)
