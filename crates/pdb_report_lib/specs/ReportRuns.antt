-- The ends of a run of the program.
use Rattle.std.specs.Prelude.{◌≡◌, ◌⊎◌, true, List, ℕ, Option, Some, None, Result, Ok, Err, string_bytes}
use Rattle.std.specs.Io.KnownBytes.{Keeps}
use Rattle.pdb_errors.specs.declared.error.Error.TheVariants.{OutOfMemory}
use Rattle.pdb_json_values.specs.declared.record_fault.RecordFault.{RecordFault}
use Rattle.pdb_json_values.specs.RecordFault.{IsFaultOf}
use Rattle.serde_json.specs.Data.{Data}
use Rattle.pdb_json.specs.RecordsFile.{records_of_files, wanted_files_of, module_files_of}
use Rattle.pdb_records_files.specs.ModuleFiles.{IsWantedPath}
use Rattle.pdb_report_lib.specs.declared.command_error.CommandError.{CommandError}
use Rattle.pdb_report_lib.specs.declared.command_error.CommandError.TheVariants.{Refused, Usage, CannotRead}
use Rattle.pdb_report_lib.specs.declared.command_error.CommandError.TheVariants.{CannotReadModule, CannotWrite}
use Rattle.pdb_report_lib.specs.declared.command_error.CommandError.TheVariants as stop
use Rattle.pdb_report_lib.specs.CommandError.{EndsOverFile}
use Rattle.pdb_report_lib.specs.Sinks.{SinkState}
use Rattle.pdb_report_lib.specs.ReportArguments.{Asked}

-- a file can't be read, and the error has its path; or memory ran out
abbrev pub IsReadStop : List ℕ → CommandError → Type 0
IsReadStop path (CannotRead shown) = shown.now ≡ path
IsReadStop path (Refused error) = error ≡ OutOfMemory
IsReadStop path other = ⊥

-- a module file that a records file with this value wants can't be read, and the error has its path; or the value has
-- no readable names of module files; or memory ran out
abbrev pub AreModuleReadStops : List ℕ → Data → CommandError → Type 0
AreModuleReadStops records_path value (CannotReadModule shown) =
    IsWantedPath records_path (wanted_files_of value) (string_bytes shown)
AreModuleReadStops records_path value (Refused error) = error ≡ OutOfMemory
AreModuleReadStops records_path value (stop.Records shown fault) =
    (shown.now ≡ records_path) × IsFaultOf fault (wanted_files_of value)
AreModuleReadStops records_path value other = ⊥

-- why a run without a request ends early: memory ran out, or it prints the usage; the sink is unchanged
abbrev pub StopsUnasked : SinkState → SinkState → CommandError → Type 0
StopsUnasked before after Usage = after ≡ before
StopsUnasked before after (Refused error) = (error ≡ OutOfMemory) × (after ≡ before)
StopsUnasked before after other = ⊥

-- a run ends as over the bytes of some file and its module files, and the sink is flushed
pub record EndsOverSomeFile {A : Type 0} (asked : Asked) (before after : SinkState) (result : Result A CommandError)
    : Type 0 where
  pub bytes : List ℕ
  pub files : List (List ℕ)
  pub written : SinkState
  pub ends : EndsOverFile asked.path asked.command asked.addresses (records_of_files bytes files)
      before written result
  pub same : Keeps written.held after.held
  pub unchanged : after.failed ≡ written.failed

-- a sink takes the text over the bytes of some file and its module files, but can't be flushed
pub record EndsAtFlush (A : Type 0) (asked : Asked) (before after : SinkState) : Type 0 where
  pub bytes : List ℕ
  pub files : List (List ℕ)
  pub written : SinkState
  pub ended : Result A CommandError
  pub ends : EndsOverFile asked.path asked.command asked.addresses (records_of_files bytes files)
      before written ended
  pub same : Keeps written.held after.held
  pub failed : after.failed ≡ true

-- some bytes have no readable names of module files; the fault is reported with the file's path, and the sink is
-- unchanged
pub record StopsWithoutModules (asked : Asked) (before after : SinkState) (path : List ℕ) (fault : RecordFault)
    : Type 0 where
  pub shown : path ≡ asked.path
  pub bytes : List ℕ
  pub refused : IsFaultOf fault (module_files_of bytes)
  pub same : after ≡ before

-- a module file that some bytes want can't be read, and the error has its path; the sink is unchanged
pub record StopsAtModule (asked : Asked) (before after : SinkState) (path : List ℕ) : Type 0 where
  pub bytes : List ℕ
  pub shown : IsWantedPath asked.path (module_files_of bytes) path
  pub same : after ≡ before

-- why a run with a request ends early: a file can't be read, and the error has its path; or memory ran out before the
-- first text; or it ends over the contents of the files; or the sink can't be flushed
abbrev pub StopsAsked : Type 0 → Asked → SinkState → SinkState → CommandError → Type 0
StopsAsked A asked before after Usage = ⊥
StopsAsked A asked before after (Refused error) =
    ((error ≡ OutOfMemory) × (after ≡ before)) ⊎ EndsOverSomeFile {A = A} asked before after (Err (Refused error))
StopsAsked A asked before after (CannotRead path) = (path.now ≡ asked.path) × (after ≡ before)
StopsAsked A asked before after (CannotReadModule path) =
    StopsAtModule asked before after (string_bytes path)
StopsAsked A asked before after (stop.Records path fault) =
    StopsWithoutModules asked before after path.now fault
    ⊎ EndsOverSomeFile {A = A} asked before after (Err (stop.Records path fault))
StopsAsked A asked before after CannotWrite =
    EndsOverSomeFile {A = A} asked before after (Err CannotWrite) ⊎ EndsAtFlush A asked before after

-- the end of a run, by the request in its words
abbrev pub EndsRun : {A : Type 0} → Option Asked → SinkState → SinkState → Result A CommandError → Type 0
EndsRun None before after (Ok done) = ⊥
EndsRun None before after (Err why) = StopsUnasked before after why
EndsRun (Some asked) before after (Ok done) = EndsOverSomeFile asked before after (Ok done)
EndsRun {A = A} (Some asked) before after (Err why) = StopsAsked A asked before after why
