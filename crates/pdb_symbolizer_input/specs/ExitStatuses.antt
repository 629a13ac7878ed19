-- The exit status of a run.
use Rattle.std.specs.Prelude.{ℕ, Bool, true, false, if◌then◌else◌, Result, Ok, Err}
use Rattle.clap.specs.declared.error.kind.ErrorKind.{ErrorKind}
use Rattle.clap.specs.declared.error.kind.ErrorKind.TheVariants as kind
use Rattle.clap.specs.Values.{kind_of}
use Rattle.pdb_symbolizer_input.specs.declared.run_errors.RunError.{RunError}
use Rattle.pdb_symbolizer_input.specs.declared.run_errors.RunError.TheVariants as run

-- whether the command line asks for the help or the version
abbrev pub asks_for_help : ErrorKind → Bool
asks_for_help kind.DisplayHelp = true
asks_for_help kind.DisplayVersion = true
asks_for_help other = false

-- the exit status of a run that ended early: 0 after help and version or if the reader of the output is gone, 1 if
-- nothing can be answered over a file, else 2
abbrev pub status_of : RunError → ℕ
status_of (run.Words error) = if asks_for_help (kind_of error) then 0 else 2
status_of run.ClosedPipe = 0
status_of (run.Refused error) = 1
status_of (run.PdbFile path refusal) = 1
status_of (run.NoPdbFile why) = 1
status_of (run.OtherBuild path found expected) = 1
status_of (run.NoIdentity path) = 1
status_of run.Unopened = 1
status_of other = 2

-- the exit status of a run: 0 if it did all that it was asked for
abbrev pub exit_status : {A : Type 0} → Result A RunError → ℕ
exit_status (Ok done) = 0
exit_status (Err why) = status_of why
